-- What is noted of pairs of places stays true as the table grows.
use Rattle.std.proofs.Common.{Result, Ok, Err, OnOk, ◌≡◌, ℕ, List, sym, subst, ◌∙◌, None, Some, ◌⊎◌, inl, inr}
use Rattle.plai_bdd.specs.declared.node.Node.{Node}
use Rattle.plai_bdd.specs.declared.memo.Pair.{Pair}
use Rattle.plai_bdd.specs.declared.memo.Memo.{Memo}
use Rattle.plai_bdd.specs.declared.change.Connective.{Connective}
use Rattle.plai_bdd.specs.declared.change.Change.{Change}
use Rattle.plai_bdd.specs.Memo.{noted_at, IsBlank, NotesOne}
use Rattle.plai_bdd.specs.Table.{IsGrown, Answers, IsMemo, least_of, function_of}
use Rattle.plai_bdd.proofs.Adding.{Answers-grown}

-- what is noted stays true as the table grows
pub memo_grown : (connective : Connective) (change : Change) (left right : List Node) (memo : Memo) (t u : List Node)
    → IsGrown t u → IsMemo connective change left right memo t → IsMemo connective change left right memo u
memo_grown connective change left right memo t u g m = record { noted = λ pair place e. Answers-grown g (m.noted pair place e) }

none_is_no : (a : ℕ) → None ≡ Some a → ⊥
none_is_no a h = cc

-- nothing is noted of the memo that is blank
pub memo_blank : (connective : Connective) (change : Change) (left right : List Node) (memo : Memo) (t : List Node) → IsBlank memo
    → IsMemo connective change left right memo t
memo_blank connective change left right memo t blank =
    record { noted = λ pair place e. absurd (none_is_no place (sym (blank pair) ∙ e)) }

-- a pair is noted
pub memo_noted : (connective : Connective) (change : Change) (left right : List Node) (old new : Memo) (t : List Node)
    (pair : Pair) (place : ℕ)
    → IsMemo connective change left right old t → NotesOne (noted_at old) (noted_at new) pair place
    → Answers t place (least_of change left right pair.left pair.right) (function_of connective change left right pair.left pair.right)
    → IsMemo connective change left right new t
memo_noted connective change left right old new t pair place m one here = record { noted = λ q k e. by q k (one q k e) }
  where
    by : (q : Pair) (k : ℕ) → (noted_at old q ≡ Some k) ⊎ ((q ≡ pair) × (k ≡ place))
        → Answers t k (least_of change left right q.left q.right) (function_of connective change left right q.left q.right)
    by q k (inl was) = m.noted q k was
    by q k (inr (same, k_is)) =
        let P : Pair → Type 0 = λ p. Answers t k (least_of change left right p.left p.right) (function_of connective change left right p.left p.right) in
        subst P (sym same) (subst (λ n. Answers t n (least_of change left right pair.left pair.right)
        (function_of connective change left right pair.left pair.right)) (sym k_is) here)

pub memo_ok : {E : Type 0} (connective : Connective) (change : Change) (left right : List Node) (memo : Memo) (t u v : List Node)
    (r : Result ℕ E) → OnOk r (u ≡ v)
    → IsGrown t v → IsMemo connective change left right memo t → OnOk r (IsMemo connective change left right memo u)
memo_ok connective change left right memo t u v (Ok p) s g m = let P : List Node → Type 0 = λ w. IsMemo connective change left right memo w in
    subst P (sym s) (memo_grown connective change left right memo t v g m)
memo_ok connective change left right memo t u v (Err x) s g m = tt
