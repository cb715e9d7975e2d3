-- Functions that are true together, as a state's factors are.
use Rattle.std.proofs.Common.{◌≡◌, ℕ, ◌^◌, Bool, ◌&&◌, List, [], ◌∷◌, filter, sym, ap, ◌∙◌}
use Rattle.std.proofs.Math.Bool.{and-true}
use Rattle.std.proofs.lemmas.Bool.{and_from}
use Rattle.plai_base.specs.Mask.{all_true, has_slot}
use Rattle.plai_base.specs.Sets.{has, kept, IsSet}
use Rattle.plai_base.proofs.Sets.{kept_same, filter-kept, has-filter, has-kept, same_set, IsSet-filter}
use Rattle.plai_bdd.specs.declared.node.Node.{Node}
use Rattle.plai_bdd.specs.Assignment.{Assignment}
use Rattle.plai_bdd.specs.Nodes.{holds}
use Rattle.plai_factors.specs.Product.{together}
use Rattle.plai_pos.specs.Values.{models_in, models_of, IsPositiveBelow}

module _ (v : ℕ) (fs : List (List Node)) (f : List Node) (longer : List (List Node))
    (at_longer : (at : Assignment) → together longer at ≡ (together fs at && holds f at)) where
  pub positive_push : IsPositiveBelow v (together fs) → IsPositiveBelow v (holds f) → IsPositiveBelow v (together longer)
  positive_push p q = record {
    over = λ at other same. at_longer at ∙ (λ i. p.over at other same i && q.over at other same i) ∙ sym (at_longer other);
    top = at_longer (has_slot (all_true v)) ∙ and_from _ _ p.top q.top;
  }

  pub models_push : models_in v (together longer) ≡ filter (λ y. holds f (has_slot y)) (models_in v (together fs))
  models_push =
      kept_same (2 ^ v) (λ y. together longer (has_slot y)) (λ y. together fs (has_slot y) && holds f (has_slot y)) (λ y l. at_longer (has_slot y))
      ∙ sym (filter-kept (2 ^ v) (λ y. holds f (has_slot y)) (λ y. together fs (has_slot y)))

-- one function
module _ (v : ℕ) (f : List Node) (fs : List (List Node)) (alone : (at : Assignment) → together fs at ≡ holds f at) where
  pub positive_alone : IsPositiveBelow v (holds f) → IsPositiveBelow v (together fs)
  positive_alone p = record {
    over = λ at other same. alone at ∙ p.over at other same ∙ sym (alone other);
    top = alone (has_slot (all_true v)) ∙ p.top;
  }

  pub models_alone : models_in v (together fs) ≡ models_of v f
  models_alone = kept_same (2 ^ v) (λ y. together fs (has_slot y)) (λ y. holds f (has_slot y)) (λ y l. alone (has_slot y))

-- assignments that a function keeps are those among its models
pub filter_models : (v : ℕ) (p : ℕ → Bool) (ys : List ℕ) → IsSet (2 ^ v) ys → filter p ys ≡ filter (has (kept (2 ^ v) p)) ys
filter_models v p ys is =
    same_set (2 ^ v) _ _ (IsSet-filter (2 ^ v) p ys is) (IsSet-filter (2 ^ v) (has (kept (2 ^ v) p)) ys is)
    (λ y l.
    has-filter p ys y
    ∙ ap (λ b. has ys y && b) (sym (has-kept (2 ^ v) p y l))
    ∙ sym (has-filter (has (kept (2 ^ v) p)) ys y))
