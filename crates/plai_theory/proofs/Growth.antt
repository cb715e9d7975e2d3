-- A row's answer that grows keeps the invariant of legal work.
use Rattle.std.proofs.Common.{◌≡◌, ◌⊎◌, ℕ, suc, true, false, List, map, Option, Some, None, sym, refl, ap, ap₂, ◌∙◌, subst, inl, inr, arith}
use Rattle.plai_theory.specs.Words.{IsIn, given, UpTo, item}
use Rattle.plai_theory.specs.Domain.{Domain, Program, IsLawful}
use Rattle.plai_theory.specs.Evaluation.{Source, NameOf, name_of, answer_of, calls_of}
use Rattle.plai_theory.specs.Stages.{stage, IsFromBelow}
use Rattle.plai_theory.specs.LegalWork.{WorkRow, find, present_source, mentions, after_growing, answer_now, next_answer}
use Rattle.plai_theory.proofs.Options.{by_test}
use Rattle.plai_theory.proofs.Eval.{same_answer, same_called, Agree}
use Rattle.plai_theory.proofs.Stages.{trans_at, left_at, joined_first, joined_second, joined_least}
use Rattle.plai_theory.proofs.Near.{IsNear, below_stage, answer_low}
use Rattle.plai_theory.proofs.Rows.{item_in, find_name, by_map, present_map, not_mentioned}
use Rattle.plai_theory.proofs.Invariant.{IsExcepted, RecordsCalls, CoversAnswers, CallsNear, Inv}

module _ (d : Domain) (g : Program d) (laws : IsLawful d g) where
  -- the next answer: between the row's answer and the next stage
  module _ (rows : List (WorkRow d)) (low : IsFromBelow d g (present_source d rows)) (x : NameOf d) (value : d.leq x.pred x.call x.call) (i : ℕ) where
    now_low : UpTo (d.leq x.pred) (answer_now d g rows x i) (stage d g (suc low.0) x.pred x.call)
    now_low = at_clause (item (g.clauses x.pred) i) refl
      where
        at_clause : (o : Option d.Clause) → item (g.clauses x.pred) i ≡ o
            → UpTo (d.leq x.pred) (given None (λ c. answer_of d (present_source d rows) c x.call) o) (stage d g (suc low.0) x.pred x.call)
        at_clause None e = tt
        at_clause (Some c) e = answer_low d g laws (present_source d rows) low x value c (item_in (g.clauses x.pred) i c e)

    pub next_low : UpTo (d.leq x.pred) (next_answer d g rows x i) (stage d g (suc low.0) x.pred x.call)
    next_low =
        joined_least d g laws x.pred (present_source d rows x.pred x.call) (answer_now d g rows x i) (stage d g (suc low.0) x.pred x.call)
        (below_stage d g laws (present_source d rows) low (suc low.0) (omega arith) x.pred x.call x.call value) now_low

    present_value : UpTo (d.leq x.pred) (present_source d rows x.pred x.call) (present_source d rows x.pred x.call)
    present_value = left_at d g laws x.pred (present_source d rows x.pred x.call) (stage d g low.0 x.pred x.call) (low.1 x.pred x.call value)

    now_value : UpTo (d.leq x.pred) (answer_now d g rows x i) (answer_now d g rows x i)
    now_value = left_at d g laws x.pred (answer_now d g rows x i) (stage d g (suc low.0) x.pred x.call) now_low

    pub next_first : UpTo (d.leq x.pred) (present_source d rows x.pred x.call) (next_answer d g rows x i)
    next_first = joined_first d g laws x.pred (present_source d rows x.pred x.call) (answer_now d g rows x i) present_value now_value

    pub next_second : UpTo (d.leq x.pred) (answer_now d g rows x i) (next_answer d g rows x i)
    next_second = joined_second d g laws x.pred (present_source d rows x.pred x.call) (answer_now d g rows x i) present_value now_value

  -- the answer of a row grows
  module _ (rows : List (WorkRow d)) (x : NameOf d) (i : ℕ) (inv : Inv d g rows (Some (x, i))) where
    abbrev grow : WorkRow d → WorkRow d
    grow = after_growing d x (next_answer d g rows x i)

    abbrev new : Source d
    new = present_source d (map grow rows)

    new_is : (p : d.Pred) (v : d.Value) → new p v ≡ given None (λ r. (grow r).answer) (find d rows (name_of d p v))
    new_is = present_map d g laws grow (λ r. refl) rows

    -- other answers stay
    other : (y : NameOf d) → d.same_name y x ≡ false → new y.pred y.call ≡ present_source d rows y.pred y.call
    other y t = new_is y.pred y.call ∙ at_found (find d rows y) refl
      where
        at_found : (o : Option (WorkRow d)) → find d rows y ≡ o → given None (λ r. (grow r).answer) o ≡ given None (λ (r : WorkRow d). r.answer) o
        at_found None f = refl
        at_found (Some r) f =
            let k : d.same_name r.name x ≡ false = ap (λ n. d.same_name n x) (find_name d g laws rows y r f) ∙ t in
            rw k refl

    same_row' : (y : NameOf d) (r : WorkRow d) → find d rows y ≡ Some r → d.same_name r.name x ≡ true → x ≡ y
    same_row' y r f t = sym (laws.same_true r.name x t) ∙ find_name d g laws rows y r f

    grow_low : IsFromBelow d g new
    grow_low = (suc inv.low.0, λ p v is. rw (new_is p v) (at_found p v is (find d rows (name_of d p v)) refl))
      where
        at_found : (p : d.Pred) (v : d.Value) → d.leq p v v → (o : Option (WorkRow d)) → find d rows (name_of d p v) ≡ o
            → UpTo (d.leq p) (given None (λ r. (grow r).answer) o) (stage d g (suc inv.low.0) p v)
        at_found p v is None f = tt
        at_found p v is (Some r) f =
            by_test (d.same_name r.name x)
            (λ t.
            let ex : x ≡ name_of d p v = same_row' (name_of d p v) r f t in
            let k : UpTo (d.leq p) (next_answer d g rows (name_of d p v) i) (stage d g (suc inv.low.0) p v) = next_low rows inv.low (name_of d p v) is i in
            rw t (subst (λ (z : NameOf d). UpTo (d.leq p) (next_answer d g rows z i) (stage d g (suc inv.low.0) p v)) (sym ex) k))
            (λ t. rw t (subst (λ (o : Option (WorkRow d)). UpTo (d.leq p) (given None (λ q. q.answer) o) (stage d g (suc inv.low.0) p v)) f
            (below_stage d g laws (present_source d rows) inv.low (suc inv.low.0) (omega arith) p v v is)))

    -- the row's answer lies at or below the grown one
    grow_above : (y : NameOf d) (r : WorkRow d) → find d rows y ≡ Some r → UpTo (d.leq y.pred) r.answer (grow r).answer
    grow_above y r f =
        let is : d.leq y.pred y.call y.call = inv.value_names y r f in
        by_test (d.same_name r.name x)
        (λ t. rw t (subst (λ (z : NameOf d). UpTo (d.leq y.pred) r.answer (next_answer d g rows z i)) (sym (same_row' y r f t))
        (subst (λ (o : Option (WorkRow d)). UpTo (d.leq y.pred) (given None (λ q. q.answer) o) (next_answer d g rows y i)) f (next_first rows inv.low y is i))))
        (λ t. rw t (subst (λ (o : Option (WorkRow d)). UpTo (d.leq y.pred) (given None (λ q. q.answer) o) (given None (λ q. q.answer) o)) f
        (present_value rows inv.low y is i)))

    -- the evaluation that was last lies at or below the grown answer
    grow_last : (y : NameOf d) (r : WorkRow d) → find d rows y ≡ Some r → (k : ℕ) (c : d.Clause) → item (g.clauses y.pred) k ≡ Some c
        → IsExcepted d (Some (x, i)) y k → UpTo (d.leq y.pred) (answer_of d (present_source d rows) c y.call) (grow r).answer
    grow_last y r f k c e l =
        let ex : x ≡ y = ap (given x (λ (p : NameOf d × ℕ). p.0)) l in
        let ei : i ≡ k = ap (given i (λ (p : NameOf d × ℕ). p.1)) l in
        let t : d.same_name r.name x ≡ true = rw (find_name d g laws rows y r f, ex) (laws.same_refl y) in
        let h : UpTo (d.leq y.pred) (answer_now d g rows y k) (next_answer d g rows y k) = next_second rows inv.low y (inv.value_names y r f) k in
        let b : UpTo (d.leq y.pred) (answer_of d (present_source d rows) c y.call) (next_answer d g rows y k) =
        subst (λ (o : Option d.Clause). UpTo (d.leq y.pred) (given None (λ c. answer_of d (present_source d rows) c y.call) o)
        (next_answer d g rows y k)) e h in
        let n : next_answer d g rows y k ≡ next_answer d g rows x i = sym (ap₂ (λ (z : NameOf d) (j : ℕ). next_answer d g rows z j) ex ei) in
        rw t (subst (λ (o : Option d.Value). UpTo (d.leq y.pred) (answer_of d (present_source d rows) c y.call) o) n b)

    -- a pair that stays clean calls no name whose answer grew
    pub grow_agrees : (y : NameOf d) (q : WorkRow d) → find d rows y ≡ Some q → (k : ℕ) (c : d.Clause) → item (g.clauses y.pred) k ≡ Some c
        → q.dirty k ≡ false → mentions d x (q.calls k) ≡ false → Agree d new (present_source d rows) (calls_of d (present_source d rows) c y.call)
    grow_agrees y q f k c t dirty m p v j =
        other (name_of d p v) (not_mentioned d g laws x (q.calls k) (name_of d p v) m
        (subst (λ (ns : List (NameOf d)). IsIn (name_of d p v) ns) (sym (inv.clean_calls y q f k c t dirty)) j))

    pub grew : Inv d g (map grow rows) None
    grew =
        record {
          low = grow_low;
          value_names = λ y r e. by_map d g laws grow (λ r. refl) (λ r. d.leq y.pred y.call y.call) rows y r e (inv.value_names y);
          near_live = λ y r e. by_map d g laws grow (λ r. refl) (λ r. r.live ≡ true → IsNear d g y) rows y r e (inv.near_live y);
          near_calls = λ y r e. by_map d g laws grow (λ r. refl) (CallsNear d g y) rows y r e (inv.near_calls y);
          clean_calls = λ y r e. by_map d g laws grow (λ r. refl) (RecordsCalls d g new y) rows y r e (λ q f k c t u.
              by_test (mentions d x (q.calls k)) (λ m. let b : true ≡ false = rw m at u in cc)
              (λ m. let dirty : q.dirty k ≡ false = rw m at u in
              inv.clean_calls y q f k c t dirty ∙ sym (same_called d new (present_source d rows) c y.call (grow_agrees y q f k c t dirty m))));
          clean_answers = λ y r e. by_map d g laws grow (λ r. refl) (CoversAnswers d g new None y) rows y r e (λ q f k c t u.
              by_test (mentions d x (q.calls k)) (λ m. let b : true ≡ false = rw m at u in cc)
              (λ m. let dirty : q.dirty k ≡ false = rw m at u in
              inr (rw (same_answer d new (present_source d rows) c y.call (grow_agrees y q f k c t dirty m))
              (covered y q f k c t (inv.clean_answers y q f k c t dirty)))));
        }
      where
        covered : (y : NameOf d) (q : WorkRow d) → find d rows y ≡ Some q → (k : ℕ) (c : d.Clause) → item (g.clauses y.pred) k ≡ Some c
            → IsExcepted d (Some (x, i)) y k ⊎ UpTo (d.leq y.pred) (answer_of d (present_source d rows) c y.call) q.answer
            → UpTo (d.leq y.pred) (answer_of d (present_source d rows) c y.call) (grow q).answer
        covered y q f k c t (inl l) = grow_last y q f k c t l
        covered y q f k c t (inr h) = trans_at d g laws y.pred (answer_of d (present_source d rows) c y.call) q.answer (grow q).answer h (grow_above y q f)
