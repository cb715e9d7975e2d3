-- What is known of variables from what is known of terms, as diagrams.
use Rattle.std.proofs.Common.{◌≡◌, ℕ, ◌^◌, ◌<◌, true, List, length, get_or, sym, ap, ◌∙◌}
use Rattle.plai_base.specs.Mask.{has_slot, all_true}
use Rattle.plai_base.specs.Sets.{has}
use Rattle.plai_base.proofs.Sets.{has-kept, kept_has, kept_same}
use Rattle.plai_base.proofs.Bits.{top_lt}
use Rattle.plai_bdd.specs.declared.node.Node.{Node}
use Rattle.plai_bdd.specs.Assignment.{Assignment}
use Rattle.plai_bdd.specs.Nodes.{IsFunction, is_model, holds as answer}
use Rattle.plai_bdd.specs.Replace.{replaced}
use Rattle.plai_bdd.proofs.Depends.{holds-below}
use Rattle.plai_pos_laws.proofs.Parts.{value_kept}
use Rattle.plai_pos.specs.Values.{models_of, terms_at, preimage, IsDiagram, IsDiagramOf}
use Rattle.plai_pos.specs.TermSlots.{AreBelow}
use Rattle.plai_pos.proofs.Alike.{TrueAlike, diagram_of}
use Rattle.plai_pos.proofs.Determined.{conjunction_below, slot_at, terms_lt, top_terms}

module _ (v : ℕ) (sets : List ℕ) (below : AreBelow v sets) (given : List Node) (d : IsDiagram (length sets) given) (made : List Node)
    (is : IsFunction made (λ at. answer given (replaced sets at))) where
  preimage_alike : TrueAlike v (answer made)
  preimage_alike at other same t =
      is.answers other
      ∙ (λ i. answer given (λ slot. conjunction_below v (get_or sets slot 0) other at (below slot) (λ k l. sym (same k l)) i))
      ∙ sym (is.answers at) ∙ t

  -- the answer at an assignment to the variables is that at the truths of the terms under it
  preimage_at : (y : ℕ) → is_model made y ≡ has (models_of (length sets) given) (terms_at sets y)
  preimage_at y =
      is.answers (has_slot y)
      ∙ holds-below given (length sets) d.canonical d.over (replaced sets (has_slot y)) (has_slot (terms_at sets y)) (λ j l. sym (slot_at sets y j l))
      ∙ sym (has-kept (2 ^ length sets) (is_model given) (terms_at sets y) (terms_lt sets y))

  preimage_top : has (models_of (length sets) given) (terms_at sets (all_true v)) ≡ true
  preimage_top =
      ap (has (models_of (length sets) given)) (top_terms v sets below)
      ∙ kept_has (2 ^ length sets) (is_model given) (all_true (length sets)) (top_lt (length sets)) d.top

  pub preimage_is : IsDiagramOf v (preimage v sets (models_of (length sets) given)) made
  preimage_is =
      diagram_of v (preimage v sets (models_of (length sets) given)) made is.canonical preimage_alike
      (kept_same (2 ^ v) (is_model made) (λ y. has (models_of (length sets) given) (terms_at sets y)) (λ y l. preimage_at y))
      (value_kept v (λ y. has (models_of (length sets) given) (terms_at sets y)) preimage_top)
