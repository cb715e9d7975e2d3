-- Names that are placed one after another for a pair, as it is told.
use Rattle.std.proofs.Common.{◌≡◌, ℕ, suc, ◌+◌, ◌<◌, ◌≤◌, Bool, true, false, cond, ◌||◌, nat_eq, eqb-true, List, [], ◌∷◌, ◌++◌, length, Option, Some, None}
use Rattle.std.proofs.Common.{sym, refl, ap, ◌∙◌, subst, arith}
use Rattle.std.specs.List.{list_any}
use Rattle.std.proofs.lemmas.Bool.{eq-eqb}
use Rattle.plai_theory.specs.Domain.{Domain, Program, Name, IsLawful}
use Rattle.plai_theory.specs.Evaluation.{NameOf}
use Rattle.plai_theory.specs.LegalWork.{Made, IsLegalLog}
use Rattle.plai_theory.specs.Measure.{one_at_none}
use Rattle.plai_terms.specs.declared.abs.Abs.{Abs}
use Rattle.plai_terms.specs.declared.pred_key.PredKey.{PredKey}
use Rattle.plai_domain.specs.declared.work.WorkEntry.{WorkEntry}
use Rattle.plai_domain.specs.declared.work.WorkEntry.TheVariants as entries
use Rattle.plai_domain.specs.Noted.{noted}
use Rattle.plai_domain.specs.Plain.{PlainDomain}
use Rattle.plai_domain.specs.Laws as domain
use Rattle.plai_clauses.specs.Program.{ProgramView}
use Rattle.plai_clauses.specs.WellFormed.{IsWellFormed}
use Rattle.plai_eval.specs.Meaning.{row_name, as_domain, as_limits, as_program}
use Rattle.plai_eval.proofs.Lawful.{lawful_at}
use Rattle.plai_fix_laws.specs.WorkStates.{KeptRow, Keeping, IsNamed, kept_live, Extends, AreOfRows}
use Rattle.plai_fix_laws.specs.Changes.{Makes}
use Rattle.plai_fix_laws.specs.Pairs.{Links, IsWaiting}
use Rattle.plai_fix_laws.specs.Measures.{kept_sum, kept_nones, kept_room, Adds}
use Rattle.plai_fix_rows.specs.Told.{start_of, Origin, HasLog}
use Rattle.plai_fix_rows.specs.Solving.{Places, IsThere, IsMade, IsLacking, IsPlacing}
use Rattle.plai_fix_laws.proofs.Lists.{length_push, count_push}
use Rattle.plai_fix_laws.proofs.Linked.{in_last, links_found, links_full, links_made}
use Rattle.plai_fix_laws.proofs.Extended.{extends_same, extends_push}
use Rattle.plai_fix_laws.proofs.Placements.{makes_called}
use Rattle.plai_fix_laws.proofs.LookedUp.{any_push}
use Rattle.plai_fix_rows.proofs.Telling.{has_more, has_less}

-- a new row has no answer yet
sum_push : (d : Domain) (f : ℕ → KeptRow d → ℕ) (kept : List (KeptRow d)) (r : KeptRow d)
    → kept_sum d f (kept ++ r ∷ []) ≡ kept_sum d f kept + f (length kept) r
sum_push d f [] r = omega arith
sum_push d f (q ∷ kept) r =
    let k : kept_sum d (λ j. f (suc j)) (kept ++ r ∷ []) ≡ kept_sum d (λ j. f (suc j)) kept + f (suc (length kept)) r = sum_push d
    (λ j. f (suc j)) kept r in omega arith

pub makes_room : (d : Domain) (g : Program d) (limit : ℕ) (k new : Keeping d) (x : NameOf d) → Makes d g k new x → kept_live d k.rows < limit
    → kept_room d limit new.rows < kept_room d limit k.rows
makes_room d g limit k new x makes room =
    let r : KeptRow d = record { name = x; answer = None; live = true } in
    let a : kept_live d new.rows ≡ kept_live d k.rows + 1 = ap (kept_live d) makes.rows ∙ count_push (λ (z : KeptRow d). z.live) k.rows r in
    let b : kept_nones d new.rows ≡ kept_nones d k.rows + 1 = ap (kept_nones d) makes.rows
    ∙ sum_push d (λ j z. cond z.live (one_at_none z.answer) 0) k.rows r in omega arith

module _ (d : Domain) (limit : ℕ) where
  pub adds_none : (k : Keeping d) → Adds d limit k k
  adds_none k = record { more = omega arith; room = λ h. absurd (omega arith); rows = λ e. refl; dirty = λ e n m. refl }

  pub adds_then : (k mid new : Keeping d) → Adds d limit k mid → Adds d limit mid new → Adds d limit k new
  adds_then k mid new a b =
      record {
        more = let l = a.more in let m = b.more in omega arith;
        room = λ h. at h (nat_eq (kept_live d mid.rows) (kept_live d k.rows)) refl;
        rows = λ e. let l = a.more in let m = b.more in b.rows (omega arith) ∙ a.rows (omega arith);
        dirty = λ e n m. let l = a.more in let o = b.more in b.dirty (omega arith) n m ∙ a.dirty (omega arith) n m;
      }
    where
      last : kept_room d limit mid.rows ≤ kept_room d limit k.rows → kept_live d k.rows < kept_live d new.rows → (t : Bool)
          → nat_eq (kept_live d new.rows) (kept_live d mid.rows) ≡ t
          → (kept_live d k.rows < kept_live d mid.rows → kept_room d limit mid.rows < kept_room d limit k.rows)
          → kept_room d limit new.rows < kept_room d limit k.rows
      last l h true e f =
          let s : kept_live d new.rows ≡ kept_live d mid.rows = eqb-true (kept_live d new.rows) (kept_live d mid.rows) e in
          let t = ap (kept_room d limit) (b.rows s) in let u = f (omega arith) in omega arith
      last l h false e f =
          let ne : kept_live d new.rows ≡ kept_live d mid.rows → ⊥ = λ s. let t : nat_eq (kept_live d new.rows) (kept_live d mid.rows) ≡ true =
          eq-eqb (kept_live d new.rows)
          (kept_live d mid.rows) s in let u : true ≡ false = sym t ∙ e in cc in
          let m = b.more in
          let u = b.room (strict (kept_live d mid.rows) (kept_live d new.rows) m (λ s. ne (sym s))) in omega arith
        where
          strict : (x y : ℕ) → x ≤ y → (x ≡ y → ⊥) → x < y
          strict x y l n = omega (arith, n)

      at : kept_live d k.rows < kept_live d new.rows → (t : Bool) → nat_eq (kept_live d mid.rows) (kept_live d k.rows) ≡ t
          → kept_room d limit new.rows < kept_room d limit k.rows
      at h true e =
          let s : kept_live d mid.rows ≡ kept_live d k.rows = eqb-true (kept_live d mid.rows) (kept_live d k.rows) e in
          let t = ap (kept_room d limit) (a.rows s) in last (omega arith) h (nat_eq (kept_live d new.rows) (kept_live d mid.rows)) refl (λ l. a.room l)
      at h false e =
          let ne : kept_live d mid.rows ≡ kept_live d k.rows → ⊥ = λ s. let t : nat_eq (kept_live d mid.rows) (kept_live d k.rows) ≡ true =
          eq-eqb (kept_live d mid.rows)
          (kept_live d k.rows) s in let u : true ≡ false = sym t ∙ e in cc in
          let m = a.more in
          let u = a.room (strict (kept_live d k.rows) (kept_live d mid.rows) m (λ s. ne (sym s))) in last (omega arith) h
          (nat_eq (kept_live d new.rows) (kept_live d mid.rows)) refl (λ l. a.room l)
        where
          strict : (x y : ℕ) → x ≤ y → (x ≡ y → ⊥) → x < y
          strict x y l n = omega (arith, n)

-- what placing a name leaves
module _ (p : PlainDomain) (program : ProgramView) (limit : ℕ) (y : Name PredKey Abs) (k : Keeping (as_domain p)) (told : Option (List WorkEntry)) where
  abbrev d : Domain
  d = as_domain p

  abbrev g : Program d
  g = as_program p program

  -- the row that is made
  pub placed_made : (new : Keeping d) (later : Option (List WorkEntry)) (row : ℕ) → ((j : ℕ) → IsNamed d k.rows j y → ⊥) → kept_live d k.rows < limit
      → Makes d g k new y → row ≡ length k.rows
      → later ≡ noted (entries.Made (row_name y)) told → Places p program limit y k told new later (Some row)
  placed_made new later row absent room makes e f =
      subst (λ o. Places p program limit y k told new o (Some row)) (sym f)
      (subst (λ (j : ℕ). Places p program limit y k told new (noted (entries.Made (row_name y)) told) (Some j)) (sym e) (IsMade new absent room makes))

  pub places_rows : (new : Keeping d) (later : Option (List WorkEntry)) (row : Option ℕ) → Places p program limit y k told new later row → AreOfRows k
      → AreOfRows new
  places_rows new later row (IsThere j named) of_rows = of_rows
  places_rows new later row (IsMade made absent room makes) of_rows = λ n m e. at n m e (nat_eq n (length k.rows)) refl
    where
      more : length made.rows ≡ length k.rows + 1
      more = ap length makes.rows ∙ length_push k.rows (record { name = y; answer = None; live = true })

      at : (n m : ℕ) → made.dirty n m ≡ true → (t : Bool) → nat_eq n (length k.rows) ≡ t → n < length made.rows
      at n m e true f = let s : n ≡ length k.rows = eqb-true n (length k.rows) f in let l = more in omega arith
      at n m e false f =
          let ne : n ≡ length k.rows → ⊥ = λ s. let t : nat_eq n (length k.rows) ≡ true = eq-eqb n (length k.rows) s in let u : true ≡ false = sym t
          ∙ f in cc in
          let l = of_rows n m (sym (makes.others n m ne) ∙ e) in let o = more in omega arith
  places_rows new later row (IsLacking absent full) of_rows = of_rows

  pub places_adds : (new : Keeping d) (later : Option (List WorkEntry)) (row : Option ℕ) → Places p program limit y k told new later row → Adds d limit k new
  places_adds new later row (IsThere j named) = adds_none d limit k
  places_adds new later row (IsMade made absent room makes) =
      let more : kept_live d made.rows ≡ kept_live d k.rows + 1 =
      ap (kept_live d) makes.rows ∙ count_push (λ (z : KeptRow d). z.live) k.rows (record { name = y; answer = None; live = true }) in
      record {
        more = omega arith;
        room = λ h. makes_room d g limit k made y makes room;
        rows = λ e. absurd (omega arith);
        dirty = λ e n m. absurd (omega arith);
      }
  places_adds new later row (IsLacking absent full) = adds_none d limit k

  pub places_extends : (new : Keeping d) (later : Option (List WorkEntry)) (row : Option ℕ) → Places p program limit y k told new later row
      → Extends d k.rows new.rows
  places_extends new later row (IsThere j named) = extends_same d k.rows k.rows refl
  places_extends new later row (IsMade made absent room makes) = extends_push d k.rows made.rows (record { name = y; answer = None; live = true }) makes.rows
  places_extends new later row (IsLacking absent full) = extends_same d k.rows k.rows refl

  -- the name is one that a pair called
  module _ (laws : domain.IsLawful p) (good : IsWellFormed program) (begun : Origin) (steps : ℕ) (unmet : ℕ → ℕ → Bool) (n i : ℕ)
      (called : List (Name PredKey Abs)) where
    lawful : IsLawful d g
    lawful = lawful_at p laws program good

    more_rows : (rows : List ℕ) (j m : ℕ) → list_any (nat_eq m) (rows ++ j ∷ []) ≡ (list_any (nat_eq m) rows || nat_eq m j)
    more_rows rows j m = any_push (nat_eq m) rows j

    module _ (rows : List ℕ) (left : List (Name PredKey Abs)) (full : Bool)
        (placing : IsPlacing p program limit begun told steps k unmet n i called (λ j. list_any (nat_eq j) rows) (left ++ y ∷ []) full) where
      made_waits : (new : Keeping d) → ((j : ℕ) → IsNamed d k.rows j y → ⊥) → kept_live d k.rows < limit → Makes d g k new y
          → HasLog p program begun.told (noted (entries.Made (row_name y)) told) steps (λ log. IsWaiting d g (as_limits p) limit (start_of p begun) log new
          (Some (n, i)) unmet n i called)
      made_waits new absent room makes =
          has_more p program begun.told told steps (λ log. IsWaiting d g (as_limits p) limit (start_of p begun) log k (Some (n, i)) unmet n i called)
          (λ log. IsWaiting d g (as_limits p) limit (start_of p begun) log new (Some (n, i)) unmet n i called)
          placing.waiting (noted (entries.Made (row_name y)) told) steps (Made y) (entries.Made (row_name y)) refl refl (omega arith)
          (makes_called d g lawful (as_limits p) limit (start_of p begun) placing.waiting.log k new unmet n i called placing.waiting.is y
          (placing.links.inside y (in_last left y)) absent room makes)

      not_full : kept_live d k.rows < limit → full ≡ true → ⊥
      not_full room t = let h = placing.no_room t in absurd (omega arith)

      is_false : (b : Bool) → (b ≡ true → ⊥) → b ≡ false
      is_false true h = absurd (h refl)
      is_false false h = refl

      -- it has a row then
      pub placed_row : (new : Keeping d) (later : Option (List WorkEntry)) (j : ℕ) (found : List ℕ) → Places p program limit y k told new later (Some j)
          → found ≡ rows ++ j ∷ []
          → IsPlacing p program limit begun later steps new unmet n i called (λ m. list_any (nat_eq m) found) left full
      placed_row new later j found (IsThere z named) e =
          record {
            waiting = placing.waiting;
            links = links_found d k.rows called left (λ m. list_any (nat_eq m) rows) (λ m. list_any (nat_eq m) found) full y z placing.links
                (λ m. ap (list_any (nat_eq m)) e ∙ more_rows rows z m) named;
            no_room = placing.no_room;
          }
      placed_row new later j found (IsMade made absent room makes) e =
          let free : full ≡ false = is_false full (not_full room) in
          record {
            waiting = made_waits made absent room makes;
            links = subst (Links d made.rows called (λ m. list_any (nat_eq m) found) left) (sym free)
                (links_made d k.rows made.rows called left (λ m. list_any (nat_eq m) rows) (λ m. list_any (nat_eq m) found)
                (record { name = y; answer = None; live = true })
                (subst (Links d k.rows called (λ m. list_any (nat_eq m) rows) (left ++ y ∷ [])) free placing.links) makes.rows
                (λ m. ap (list_any (nat_eq m)) e ∙ more_rows rows (length k.rows) m));
            no_room = λ t. absurd (not_full room t);
          }

      -- it has none
      pub placed_none : (new : Keeping d) (later : Option (List WorkEntry)) → Places p program limit y k told new later None
          → IsPlacing p program limit begun later steps new unmet n i called (λ m. list_any (nat_eq m) rows) left true
      placed_none new later (IsLacking absent met) =
          record {
            waiting = placing.waiting;
            links = links_full d k.rows called left (λ m. list_any (nat_eq m) rows) full y placing.links absent;
            no_room = λ t. met;
          }

      -- what was told is legal
      pub placing_legal : HasLog p program begun.told told 0 (IsLegalLog d g limit (start_of p begun))
      placing_legal =
          has_less p program begun.told told steps (λ log. IsWaiting d g (as_limits p) limit (start_of p begun) log k (Some (n, i)) unmet n i called)
          (IsLegalLog d g limit (start_of p begun)) placing.waiting 0 (omega arith)
          (λ w. w.working.logged.legal)

      pub placed_legal : (new : Keeping d) (later : Option (List WorkEntry)) (row : Option ℕ) → Places p program limit y k told new later row
          → HasLog p program begun.told later 0 (IsLegalLog d g limit (start_of p begun))
      placed_legal new later row (IsThere z named) = placing_legal
      placed_legal new later row (IsMade made absent room makes) =
          has_less p program begun.told (noted (entries.Made (row_name y)) told) steps (λ log. IsWaiting d g (as_limits p) limit (start_of p begun) log made
          (Some (n, i)) unmet n i called) (IsLegalLog d g limit (start_of p begun))
          (made_waits made absent room makes) 0 (omega arith) (λ w. w.working.logged.legal)
      placed_legal new later row (IsLacking absent met) = placing_legal
