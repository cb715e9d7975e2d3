-- What each of the goals that a term joins gives, put behind others.
use Rattle.std.proofs.Common.{◌≡◌, ◌∙◌, ℕ, ◌+◌, ◌<◌, ◌≤◌, suc, Option, Some, None, Result, Err, List, [], ◌∷◌, ◌++◌, length, take, drop, get_or, append-nil}
use Rattle.std.proofs.Common.{append_assoc, take-append-drop, drop-cons, refl, sym, ap, subst}
use Rattle.std.proofs.lemmas.List.{take_more, take_all}
use Rattle.std.proofs.lemmas.Grind.{flat_map-append}
use Rattle.std.specs.Prelude.{flat_map}
use Rattle.plai_terms.specs.declared.term.Term.{Term}
use Rattle.plai_clauses.specs.ClauseOf.{goals_of}
use Rattle.plai_sources.specs.declared.stop.Stop.{Stop}
use Rattle.plai_sources.specs.declared.stop.Stop.TheVariants.{Memory, Unfit}
use Rattle.plai_sources.specs.Shapes.{each}
use Rattle.plai_sources.specs.Answering.{behind, Puts}
use Rattle.plai_sources.proofs.Each.{after, each-append}

chain : {B : Type 0} (before mid later : List B) (a b : Option (List B)) → behind before a ≡ Some mid → behind mid b ≡ Some later
    → behind before (after a b) ≡ Some later
chain before mid later None b e f = absurd cc
chain before mid later (Some xs) None e f = absurd cc
chain before mid later (Some xs) (Some ys) e f =
    let m : before ++ xs ≡ mid = cc in
    ap (λ l. Some l) (sym (append_assoc before xs ys)) ∙ ap (λ l. Some (l ++ ys)) m ∙ f

stop_after : {B : Type 0} (a r : Option (List B)) → after a (after None r) ≡ None
stop_after None r = refl
stop_after (Some xs) r = refl

module _ {B : Type 0} (f : Term → Option B) where
  goals_more : (args : List Term) (i : ℕ) (part : Term) → i < length args → part ≡ get_or args i part
      → flat_map goals_of (take (i + 1) args) ≡ flat_map goals_of (take i args) ++ goals_of part
  goals_more args i part h e =
      ap (flat_map goals_of) (take_more args i part h) ∙ flat_map-append goals_of (take i args) (get_or args i part ∷ [])
      ∙ ap (λ gs. flat_map goals_of (take i args) ++ gs) (append-nil (goals_of (get_or args i part)) ∙ ap goals_of (sym e))

  pub put_more : (before mid later : List B) (args : List Term) (i : ℕ) (part : Term) → i < length args → part ≡ get_or args i part
      → behind before (each f (flat_map goals_of (take i args))) ≡ Some mid → behind mid (each f (goals_of part)) ≡ Some later
      → behind before (each f (flat_map goals_of (take (i + 1) args))) ≡ Some later
  put_more before mid later args i part h e a b =
      ap (λ gs. behind before (each f gs)) (goals_more args i part h e)
      ∙ ap (behind before) (each-append f (flat_map goals_of (take i args)) (goals_of part))
      ∙ chain before mid later (each f (flat_map goals_of (take i args))) (each f (goals_of part)) a b

  put_stops : (args : List Term) (i : ℕ) (part : Term) → i < length args → part ≡ get_or args i part → each f (goals_of part) ≡ None
      → each f (flat_map goals_of args) ≡ None
  put_stops args i part h e none =
      let r : Option (List B) = each f (flat_map goals_of (drop (suc i) args)) in
      ap (λ ts. each f (flat_map goals_of ts)) (sym (take-append-drop i args))
      ∙ ap (each f) (flat_map-append goals_of (take i args) (drop i args))
      ∙ each-append f (flat_map goals_of (take i args)) (flat_map goals_of (drop i args))
      ∙ ap (λ ts. after (each f (flat_map goals_of (take i args))) (each f (flat_map goals_of ts)))
      (drop-cons args i part h ∙ ap (λ x. x ∷ drop (suc i) args) (sym e))
      ∙ ap (after (each f (flat_map goals_of (take i args)))) (each-append f (goals_of part) (flat_map goals_of (drop (suc i) args)))
      ∙ ap (λ x. after (each f (flat_map goals_of (take i args))) (after x r)) none
      ∙ stop_after (each f (flat_map goals_of (take i args))) r

  pub put_fails : (before mid later : List B) (stop : Stop) (args : List Term) (i : ℕ) (part t : Term) (r : Result (Unit {0}) Stop) → i < length args
      → part ≡ get_or args i part
      → goals_of t ≡ flat_map goals_of args → Puts (each f (goals_of part)) mid later (Err stop) → (y : Stop) × (r ≡ Err y) × (y ≡ stop)
      → Puts (each f (goals_of t)) before later r
  put_fails before mid later Memory args i part t r h e g b q =
      let same : r ≡ Err Memory = q.1 ∙ ap (λ s. Err s) q.2 in subst (Puts (each f (goals_of t)) before later) (sym same) tt
  put_fails before mid later Unfit args i part t r h e g b q =
      let same : r ≡ Err Unfit = q.1 ∙ ap (λ s. Err s) q.2 in
      subst (Puts (each f (goals_of t)) before later) (sym same) (ap (each f) g ∙ put_stops args i part h e b)

  pub put_all : (before mid : List B) (args : List Term) (i : ℕ) (t : Term) → length args ≤ i → goals_of t ≡ flat_map goals_of args
      → behind before (each f (flat_map goals_of (take i args))) ≡ Some mid → behind before (each f (goals_of t)) ≡ Some mid
  put_all before mid args i t h g a =
      ap (λ gs. behind before (each f gs)) (g ∙ ap (flat_map goals_of) (sym (take_all i args h))) ∙ a
