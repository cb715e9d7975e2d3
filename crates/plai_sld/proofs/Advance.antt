-- A substitution at the top leaves a stack of lower frames a stack.
use Rattle.std.proofs.Common.{◌≡◌, ◌⊎◌, inl, inr, ℕ, ◌<◌, ◌≤◌, true, List, [], ◌∷◌, ◌++◌, map, refl, ap, subst, ◌∙◌, arith}
use Rattle.std.proofs.lemmas.List.{map-append}
use Rattle.plai_theory.specs.Evaluation.{NameOf}
use Rattle.plai_theory.specs.LeastTable.{Row}
use Rattle.plai_terms.specs.declared.term.Term.{Term}
use Rattle.plai_terms.specs.declared.pred_key.PredKey.{PredKey}
use Rattle.plai_terms.specs.Substitution.{under, then_also, occurs_in, IsBelow, AreBelow, IsLocal}
use Rattle.plai_terms.proofs.Under.{under_under_all, source, source_in}
use Rattle.plai_domain.specs.Plain.{StateView, PlainDomain}
use Rattle.plai_domain.specs.Soundness.{IsFrom}
use Rattle.plai_clauses.specs.declared.clause.Clause.{Clause}
use Rattle.plai_clauses.specs.declared.clause.Literal.{Literal}
use Rattle.plai_clauses.specs.declared.clause.Target.{Target}
use Rattle.plai_clauses.specs.declared.clause.Target.TheVariants as target
use Rattle.plai_clauses.specs.Program.{ProgramView}
use Rattle.plai_clauses.specs.WellFormed.{IsWellFormed}
use Rattle.plai_eval.specs.Meaning.{as_domain}
use Rattle.plai_sld.specs.declared.item.Item.{Item}
use Rattle.plai_sld.specs.declared.item.Item.TheVariants.{Call, Builtin, Mark}
use Rattle.plai_sld.specs.Runs.{item_under, items_under, goal_at, goals_of}
use Rattle.plai_sld.proofs.Local.{after_after, local_later}
use Rattle.plai_sld.proofs.Formed.{body_below}
use Rattle.plai_sld.proofs.Frames.{IsActive, Frame, head_now, items_now, IsWaiting, IsStack}

goal_later : (i f : ℕ → Term) (x : Literal) (t : Target) → item_under f (goal_at i x t) ≡ goal_at (then_also i f) x t
goal_later i f x (target.Pred p) = ap (Call p) (under_under_all i f x.args)
goal_later i f x target.Builtin = ap (Builtin x.name) (under_under_all i f x.args)

pub items_later : (i f : ℕ → Term) (xs : List Literal) → items_under f (goals_of i xs) ≡ goals_of (then_also i f) xs
items_later i f [] = refl
items_later i f (x ∷ xs) = let p = goal_later i f x x.target in let q = items_later i f xs in cc

-- a body and its mark, under a substitution
pub body_later : (i f : ℕ → Term) (xs : List Literal) (p : PredKey) (was hs : List Term) (lower : List Item)
    → items_under f (goals_of i xs ++ Mark p was (map (under i) hs) ∷ lower)
    ≡ goals_of (then_also i f) xs ++ Mark p was (map (under (then_also i f)) hs) ∷ items_under f lower
body_later i f xs p was hs lower =
    map-append (item_under f) (goals_of i xs) (Mark p was (map (under i) hs) ∷ lower)
    ∙ ap (λ ys. ys ++ Mark p was (map (under f) (map (under i) hs)) ∷ items_under f lower) (items_later i f xs)
    ∙ ap (λ ts. goals_of (then_also i f) xs ++ Mark p was ts ∷ items_under f lower) (under_under_all i f hs)

module _ (d : PlainDomain) where
  abbrev pub advanced : (ℕ → Term) → Frame d → Frame d
  advanced f x = record x { since = then_also x.since f }

  pub instance_later : (c : Clause) (n m : ℕ) (i f : ℕ → Term) → ((v : ℕ) → v < n → IsBelow m (f v)) → IsFrom c.variables n i
      → IsFrom c.variables m (then_also i f)
  instance_later c n m i f h below v lt w o =
      let (u, a, b) = source f w (i v) o in
      h u (below v lt u a) w b

  pub terms_later : (n m : ℕ) (f : ℕ → Term) → ((v : ℕ) → v < n → IsBelow m (f v)) → (ts : List Term) → AreBelow n ts → AreBelow m (map (under f) ts)
  terms_later n m f h ts below w o =
      let (u, a, b) = source_in f w ts o in
      h u (below u a) w b

module _ (d : PlainDomain) (g : ProgramView) (formed : IsWellFormed g) (rows : List (Row (as_domain d))) where
  -- the variables of the arguments of a frame's literal are those of its own call's, or later ones
  pub confined_args : (r : Row (as_domain d)) (c : Clause) (x : Literal) (rest : List Literal) (st : StateView) (i : ℕ → Term) (was : List Term) (from : ℕ)
      → IsActive d g rows r c (x ∷ rest) st i was from → (w : ℕ) → occurs_in w (map (under i) x.args) ≡ true → (occurs_in w was ≡ true) ⊎ (from ≤ w)
  confined_args r c x rest st i was from active w o =
      let (v, a, b) = source_in i w x.args o in
      active.confined v w (body_below g formed r.name.pred c active.clause x (active.part x (inl refl)) v a) b

module _ (d : PlainDomain) (g : ProgramView) (formed : IsWellFormed g) (rows : List (Row (as_domain d)))
    (f : ℕ → Term) (n m : ℕ) (ts : List Term) (le : n ≤ m) (step : IsLocal f n ts) (brought : (v : ℕ) → v < n → IsBelow m (f v)) where
  abbrev pub AreConfined : List Term → ℕ → Type 0
  AreConfined was at = (w : ℕ) → occurs_in w ts ≡ true → (occurs_in w was ≡ true) ⊎ (at ≤ w)

  waiting_later : (x : Frame d) (at : ℕ) (name : NameOf (as_domain d)) (was now : List Term) → AreConfined was at → IsWaiting d x n at name was now
      → IsWaiting d (advanced d f x) m at name was (map (under f) now)
  waiting_later x at name was now confined w =
      let now_below : AreBelow n (map (under x.since) was) = subst (AreBelow n) w.now_is w.now_below in
      record {
        target_is = w.target_is;
        name_is = w.name_is;
        was_is = w.was_is;
        now_is = ap (map (under f)) w.now_is ∙ under_under_all x.since f was;
        now_below = terms_later d n m f brought now w.now_below;
        at_le = let a : at ≤ n = w.at_le in omega arith;
        before = w.before;
        below = subst (IsFrom x.clause.variables m) (after_after x.instance x.since f)
            (instance_later d x.clause n m (then_also x.instance x.since) f brought w.below);
        since = local_later x.since f at n was ts w.at_le now_below w.since step confined;
        from_le = w.from_le;
      }

  pub stack_later : (fs : List (Frame d)) (at : ℕ) (name : NameOf (as_domain d)) (was now : List Term) (items : List Item) → AreConfined was at
      → IsStack d g rows fs n at name was now items → IsStack d g rows (map (advanced d f) fs) m at name was (map (under f) now) (items_under f items)
  stack_later [] at name was now items confined s = ap (items_under f) s
  stack_later (x ∷ fs) at name was now items confined (lower, waiting, active, items_are, stack) =
      let from_le : x.from ≤ at = waiting.from_le in
      let deeper : AreConfined x.was x.from = λ w o.
      elim (confined w o) [
        | inl a ↦ confined_args d g formed rows x.row x.clause x.literal x.rest x.state x.instance x.was x.from active w
            (subst (λ us. occurs_in w us ≡ true) waiting.was_is a)
        | inr a ↦ inr (omega arith)
      ] in
      let rest = stack_later fs x.from x.row.name x.was (head_now d x) lower deeper stack in
      let head_is : map (under f) (head_now d x) ≡ head_now d (advanced d f x) =
      under_under_all (then_also x.instance x.since) f x.clause.head ∙ ap (λ h. map (under h) x.clause.head) (after_after x.instance x.since f) in
      let items_later_are : items_under f items ≡ items_now d (advanced d f x) (items_under f lower) =
      ap (items_under f) items_are
      ∙ body_later (then_also x.instance x.since) f x.rest x.row.name.pred x.was x.clause.head lower
      ∙ ap (λ h. goals_of h x.rest ++ Mark x.row.name.pred x.was (map (under h) x.clause.head) ∷ items_under f lower) (after_after x.instance x.since f) in (
        items_under f lower,
        waiting_later x at name was now confined waiting,
        active,
        items_later_are,
        subst (λ hs. IsStack d g rows (map (advanced d f) fs) m x.from x.row.name x.was hs (items_under f lower)) head_is rest,
      )
