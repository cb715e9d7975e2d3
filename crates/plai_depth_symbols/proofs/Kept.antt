-- What the operations keep holds of each call and answer that rounds make, and of each name asked for under them.
use Rattle.std.proofs.Common.{◌≡◌, ℕ, zero, suc, List, [], ◌∷◌, Option, Some, None, refl, sym, ◌∙◌, subst, inl, inr, arith}
use Rattle.plai_theory.specs.Words.{IsIn, given}
use Rattle.plai_theory.specs.Domain.{Step, Goal, Do, Domain, Program}
use Rattle.plai_theory.specs.Evaluation.{Source, NameOf, name_of, state_behind, calls_along, answer_of, calls_of, join_of, best_of}
use Rattle.plai_theory.specs.Stages.{stage, Reaches, AtEntry, ByCall}
use Rattle.plai_theory.specs.LeastTable.{Row, Order, IsLeastTable}
use Rattle.plai_theory.specs.Tables.{source_of}
use Rattle.plai_theory.specs.Rounds.{IsAsked, after_raising, IsMade, Begin, Add, Raise}
use Rattle.plai_theory.proofs.Options.{given_in, in_given, by_test}
use Rattle.plai_theory.proofs.Rounds.{map_in, push_in}
use Rattle.plai_depth_symbols.specs.Kept.{OfValues, OfStates, IsKept, AnswersSo, IsKeptRow, AreKeptRows, TellsNames}

-- a value of a bound option
pub given_some : {A B : Type 0} (P : Type 0) (a : Option A) (f : A → Option B) (y : B) → given None f a ≡ Some y → ((x : A) → a ≡ Some x → f x ≡ Some y → P) → P
given_some P None f y e k = absurd cc
given_some P (Some x) f y e k = k x refl e

-- what the source answers at those of these names that have the property of calls has that of answers
abbrev pub AnswersAt : (d : Domain) → OfValues d → OfValues d → Source d → List (NameOf d) → Type 0
AnswersAt d of_call of_answer s names =
    (q : d.Pred) (v a : d.Value) → IsIn (name_of d q v) names → of_call q v → s q v ≡ Some a → of_answer q a

module _ (d : Domain) (g : Program d) (of_call : OfValues d) (of_state : OfStates d) (of_answer : OfValues d)
    (kept : IsKept d g of_call of_state of_answer) where
  abbrev Answers : Source d → Type 0
  Answers = AnswersSo d of_call of_answer

  abbrev At : Source d → List (NameOf d) → Type 0
  At = AnswersAt d of_call of_answer

  abbrev Keeps : Row d → Type 0
  Keeps = IsKeptRow d of_call of_answer

  module _ (s : Source d) (p : d.Pred) (c : d.Clause) (inside : IsIn c (g.clauses p)) where
    -- ---- along steps of the body

    abbrev Within : List (Step d.Literal d.Action) → Type 0
    Within steps = (x : Step d.Literal d.Action) → IsIn x steps → IsIn x (d.body c)

    next_kept : (l : d.Literal) (st next : d.State) (answer : d.Value) (names : List (NameOf d)) → At s (name_of d (d.callee l) (d.call l st) ∷ names)
        → IsIn (Goal l) (d.body c) → of_state c st → s (d.callee l) (d.call l st) ≡ Some answer → d.back l st answer ≡ Some next → of_state c next
    next_kept l st next answer names answers i h e f =
        kept.back p c l st next answer inside i h (answers (d.callee l) (d.call l st) answer (inl refl) (kept.call p c l st inside i h) e) f

    pub behind_kept : (steps : List (Step d.Literal d.Action)) → Within steps → (st end : d.State) → At s (calls_along d s steps st)
        → of_state c st → state_behind d s steps st ≡ Some end → of_state c end
    unfolding state_behind calls_along
    behind_kept [] w st end answers h e = let is : st ≡ end = cc in subst (of_state c) is h
    behind_kept (Do x ∷ rest) w st end answers h e =
        given_some (of_state c end) (d.refine x st) (λ next. state_behind d s rest next) end e
        (λ next f k. behind_kept rest (λ y i. w y (inr i)) next end (λ q u b i. answers q u b (in_given _ (d.refine x st) _ next f i))
        (kept.refine p c x st next inside (w (Do x) (inl refl)) h f) k)
    behind_kept (Goal l ∷ rest) w st end answers h e =
        given_some (of_state c end) (s (d.callee l) (d.call l st)) _ end e
        (λ answer f k. given_some (of_state c end) (d.back l st answer) (λ next. state_behind d s rest next) end k
        (λ next i j. behind_kept rest (λ y i. w y (inr i)) next end
        (λ q u b m. answers q u b (inr (in_given _ (s (d.callee l) (d.call l st)) _ answer f (in_given _ (d.back l st answer) _ next i m))))
        (next_kept l st next answer _ answers (w (Goal l) (inl refl)) h f i) j))

    pub along_kept : (steps : List (Step d.Literal d.Action)) → Within steps → (st : d.State) → At s (calls_along d s steps st) → of_state c st
        → (x : NameOf d) → IsIn x (calls_along d s steps st) → of_call x.pred x.call
    unfolding calls_along
    along_kept [] w st answers h x i = absurd i
    along_kept (Do a ∷ rest) w st answers h x i =
        given_in (of_call x.pred x.call) x (d.refine a st) (λ next. calls_along d s rest next) i
        (λ next e j. along_kept rest (λ y k. w y (inr k)) next (λ q u b m. answers q u b (in_given _ (d.refine a st) _ next e m))
        (kept.refine p c a st next inside (w (Do a) (inl refl)) h e) x j)
    along_kept (Goal l ∷ rest) w st answers h x (inl e) =
        subst (λ (n : NameOf d). of_call n.pred n.call) e (kept.call p c l st inside (w (Goal l) (inl refl)) h)
    along_kept (Goal l ∷ rest) w st answers h x (inr i) =
        given_in (of_call x.pred x.call) x (s (d.callee l) (d.call l st)) _ i
        (λ answer e j. given_in (of_call x.pred x.call) x (d.back l st answer) (λ next. calls_along d s rest next) j
        (λ next f k. along_kept rest (λ y m. w y (inr m)) next
        (λ q u b m. answers q u b (inr (in_given _ (s (d.callee l) (d.call l st)) _ answer e (in_given _ (d.back l st answer) _ next f m))))
        (next_kept l st next answer _ answers (w (Goal l) (inl refl)) h e f) x k))

    -- ---- of the clause at a call

    pub answer_at : (v a : d.Value) → At s (calls_of d s c v) → of_call p v → answer_of d s c v ≡ Some a → of_answer p a
    unfolding answer_of calls_of
    answer_at v a answers h e =
        given_some (of_answer p a) (d.enter c v) _ a e
        (λ st f k. given_some (of_answer p a) (state_behind d s (d.body c) st) (λ end. Some (d.exit c end)) a k
        (λ end m n.
        let is : d.exit c end ≡ a = cc in
        subst (of_answer p) is (kept.exit p c end inside
        (behind_kept (d.body c) (λ y i. i) st end (λ q u b i. answers q u b (in_given _ (d.enter c v) _ st f i)) (kept.enter p c v st inside h f) m))))

    pub calls_at : (v : d.Value) → At s (calls_of d s c v) → of_call p v → (x : NameOf d) → IsIn x (calls_of d s c v) → of_call x.pred x.call
    unfolding calls_of
    calls_at v answers h x i =
        given_in (of_call x.pred x.call) x (d.enter c v) (λ st. calls_along d s (d.body c) st) i
        (λ st e j. along_kept (d.body c) (λ y k. k) st (λ q u b m. answers q u b (in_given _ (d.enter c v) _ st e m)) (kept.enter p c v st inside h e) x j)

  module _ (s : Source d) (answers : Answers s) (p : d.Pred) (c : d.Clause) (inside : IsIn c (g.clauses p)) where
    pub answer_kept : (v a : d.Value) → of_call p v → answer_of d s c v ≡ Some a → of_answer p a
    answer_kept v a = answer_at s p c inside v a (λ q u b i. answers q u b)

    pub calls_kept : (v : d.Value) → of_call p v → (x : NameOf d) → IsIn x (calls_of d s c v) → of_call x.pred x.call
    calls_kept v = calls_at s p c inside v (λ q u b i. answers q u b)

  -- ---- rows

  pub join_kept : (p : d.Pred) (o q : Option d.Value) → ((a : d.Value) → o ≡ Some a → of_answer p a) → ((a : d.Value) → q ≡ Some a → of_answer p a)
      → (a : d.Value) → join_of d o q ≡ Some a → of_answer p a
  unfolding join_of
  join_kept p None q h k a e = k a e
  join_kept p (Some b) None h k a e = h a e
  join_kept p (Some b) (Some b') h k a e = let is : d.join b b' ≡ a = cc in subst (of_answer p) is (kept.join p b b' (h b refl) (k b' refl))

  -- ---- stages, and what they reach

  pub best_at : (s : Source d) (p : d.Pred) (cs : List d.Clause) → ((c : d.Clause) → IsIn c cs → IsIn c (g.clauses p)) → (v a : d.Value)
      → ((c : d.Clause) → IsIn c cs → At s (calls_of d s c v)) → of_call p v → best_of d s cs v ≡ Some a → of_answer p a
  unfolding best_of
  best_at s p [] w v a answers h e = absurd cc
  best_at s p (c ∷ cs) w v a answers h e =
      join_kept p (answer_of d s c v) (best_of d s cs v) (λ b f. answer_at s p c (w c (inl refl)) v b (answers c (inl refl)) h f)
      (λ b f. best_at s p cs (λ x i. w x (inr i)) v b (λ x i. answers x (inr i)) h f) a e

  pub stage_kept : (n : ℕ) → Answers (stage d g n)
  unfolding stage
  stage_kept zero p v a h e = absurd cc
  stage_kept (suc n) p v a h e = best_at (stage d g n) p (g.clauses p) (λ c i. i) v a (λ c i q u b j. stage_kept n q u b) h e

  pub reach_kept : (s : Source d) → Answers s → {n : ℕ} {x : NameOf d} → Reaches d g s n x → of_call x.pred x.call
  reach_kept s answers (AtEntry {x = x} i) = kept.entries x.pred x.call i
  reach_kept s answers (ByCall {x = x} m c r i j) = calls_kept s answers m.pred c i m.call (reach_kept s answers r) x j

  -- Theorem: each row of the least table has the properties.
  pub least_kept : (before : Order d) (rows : List (Row d)) → IsLeastTable d g before rows → (r : Row d) → IsIn r rows → Keeps r
  least_kept before rows (N, snapshots) r i =
      let (reached, is) = (snapshots N (omega arith)).sound r i in
      let call : of_call r.name.pred r.name.call = reach_kept (stage d g N) (stage_kept N) reached in
      record { call = call; answer = λ a e. stage_kept N r.name.pred r.name.call a call (sym is ∙ e) }

  -- ---- rounds

  module _ (same_true : TellsNames d) where
    abbrev AreKept : List (Row d) → Type 0
    AreKept = AreKeptRows d of_call of_answer

    pub source_kept : (rows : List (Row d)) → AreKept rows → Answers (source_of d rows)
    source_kept [] h p v a k e = absurd cc
    source_kept (r ∷ rows) h p v a k e =
        by_test (d.same_name r.name (name_of d p v))
        (λ t.
        let here : r.answer ≡ Some a = rw t at e in
        subst (λ (x : NameOf d). of_answer x.pred a) (same_true r.name (name_of d p v) t) ((h r (inl refl)).answer a here))
        (λ t. let later : source_of d rows p v ≡ Some a = rw t at e in source_kept rows (λ q i. h q (inr i)) p v a k later)

    pub asked_kept : (rows : List (Row d)) → AreKept rows → (x : NameOf d) → IsAsked d g rows x → of_call x.pred x.call
    asked_kept rows h x (inl i) = kept.entries x.pred x.call i
    asked_kept rows h x (inr (r, i, (c, j, k))) = calls_kept (source_of d rows) (source_kept rows h) r.name.pred c j r.name.call (h r i).call x k

    raise_kept : (seen : List (Row d)) → AreKept seen → (x : NameOf d) (c : d.Clause) → IsIn c (g.clauses x.pred) → (q : Row d) → Keeps q
        → Keeps (after_raising d x (answer_of d (source_of d seen) c x.call) q)
    raise_kept seen h x c inside q good =
        record {
          call = good.call;
          answer = λ a e.
              by_test (d.same_name q.name x)
              (λ t.
              let is : q.name ≡ x = same_true q.name x t in
              let joined : join_of d q.answer (answer_of d (source_of d seen) c x.call) ≡ Some a = rw t at e in
              join_kept q.name.pred q.answer (answer_of d (source_of d seen) c x.call) good.answer
              (λ b f. subst (λ (y : NameOf d). of_answer y.pred b) (sym is)
              (answer_kept (source_of d seen) (source_kept seen h) x.pred c inside x.call b
              (subst (λ (y : NameOf d). of_call y.pred y.call) is good.call) f)) a joined)
              (λ t. let before : q.answer ≡ Some a = rw t at e in good.answer a before);
        }

    -- Theorem: each row that rounds make has the properties.
    pub made_kept : {rows : List (Row d)} → IsMade d g rows → AreKept rows
    made_kept Begin r i = absurd i
    made_kept (Add {rows = rows} {seen = seen} x m s ask) r i =
        push_in Keeps rows (record { name = x; answer = None }) r i (made_kept m)
        (record { call = asked_kept seen (made_kept s) x ask; answer = λ a e. absurd cc })
    made_kept (Raise {rows = rows} {seen = seen} x c m s j) r i =
        map_in Keeps (after_raising d x (answer_of d (source_of d seen) c x.call)) rows r i
        (λ q k. raise_kept seen (made_kept s) x c j q (made_kept m q k))
