-- Terms of tokens, one at a time.
use Rattle.std.proofs.Common.{◌≡◌, ◌∙◌, ℕ, ◌+◌, Bool, true, false, cond, Some, Err, List, [], ◌∷◌, ◌++◌, refl, sym, ap}
use Rattle.plai_lex.specs.declared.token.Token.{Token}
use Rattle.plai_lex.specs.Tokens.{Tokens, with_tokens}
use Rattle.plai_reader.specs.Roles.{is_end}
use Rattle.plai_sources.specs.declared.cause.LoadCause.{LoadCause}
use Rattle.plai_sources.specs.declared.reading.Reading.{Reading}
use Rattle.plai_sources.specs.Items.{refusal, Split, with_first, split, last_cause, with_tokens as with_term, ended_by, numbered, and_then, items_from}
use Rattle.plai_sources.specs.Items.{items_of_tokens}
use Rattle.plai_sources.specs.Answering.{AreInside, IsWhole}

pub AreInside-push : (xs : List Token) (x : Token) → AreInside xs → is_end x.kind ≡ false → AreInside (xs ++ x ∷ [])
AreInside-push [] x h e = (e, tt)
AreInside-push (y ∷ xs) x h e = (h.0, AreInside-push xs x h.1 e)

with_one : (b : Bool) (x : Token) (s : Split) (e : b ≡ false)
    → cond b (record { terms = (x ∷ []) ∷ s.terms; rest = s.rest }) (with_first x s.terms s.rest) ≡ with_first x s.terms s.rest
with_one false x s e = refl
with_one true x s e = absurd cc

-- tokens before a full stop, and the full stop
split-whole : (xs : List Token) (last : Token) (rest : List Token) → AreInside xs → is_end last.kind ≡ true
    → split ((xs ++ last ∷ []) ++ rest) ≡ record { terms = (xs ++ last ∷ []) ∷ (split rest).terms; rest = (split rest).rest }
split-whole [] last rest h e =
    ap (λ b. cond b (record { terms = (last ∷ []) ∷ (split rest).terms; rest = (split rest).rest }) (with_first last (split rest).terms (split rest).rest)) e
split-whole (x ∷ xs) last rest h e =
    let s : Split = split ((xs ++ last ∷ []) ++ rest) in
    with_one (is_end x.kind) x s h.0
    ∙ ap (λ (t : Split). with_first x t.terms t.rest) (split-whole xs last rest h.1 e)

-- tokens without a full stop
split-inside : (xs : List Token) → AreInside xs → split xs ≡ record { terms = []; rest = xs }
split-inside [] h = refl
split-inside (x ∷ xs) h =
    with_one (is_end x.kind) x (split xs) h.0 ∙ ap (λ (t : Split). with_first x t.terms t.rest) (split-inside xs h.1)

-- a whole term is taken
pub takes_whole : (r : Reading) (number : ℕ) (tokens : List Token) (left : Tokens) → IsWhole tokens
    → items_of_tokens r number (with_tokens tokens left)
    ≡ and_then (numbered number (with_term r number tokens)) (λ next. items_of_tokens next (number + 1) left)
takes_whole r number tokens left w =
    let same : split (tokens ++ left.tokens) ≡ record { terms = tokens ∷ (split left.tokens).terms; rest = (split left.tokens).rest } =
    ap (λ ts. split (ts ++ left.tokens)) w.is ∙ split-whole w.before w.last left.tokens w.inside w.ends
    ∙ ap (λ ts. let s : Split = record { terms = ts ∷ (split left.tokens).terms; rest = (split left.tokens).rest } in s) (sym w.is) in
    ap (λ (s : Split). items_from r number s.terms (last_cause left.failure s.rest)) same

-- what is left is refused
pub refuses_rest : (r : Reading) (number : ℕ) (left : Tokens) (cause : LoadCause) → (split left.tokens).terms ≡ []
    → last_cause left.failure (split left.tokens).rest ≡ Some cause
    → items_of_tokens r number left ≡ Err (refusal number cause)
refuses_rest r number left cause none some =
    ap (λ ts. items_from r number ts (last_cause left.failure (split left.tokens).rest)) none ∙ ap (ended_by r number) some

-- tokens without a full stop, behind which no term stands
pub inside_terms : (xs : List Token) → AreInside xs → (split xs).terms ≡ []
inside_terms xs h = ap (λ (s : Split). s.terms) (split-inside xs h)

pub inside_rest : (xs : List Token) → AreInside xs → (split xs).rest ≡ xs
inside_rest xs h = ap (λ (s : Split). s.rest) (split-inside xs h)
