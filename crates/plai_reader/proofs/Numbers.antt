-- The numbers of variables are below how many there are in the end.
use Rattle.std.proofs.Common.{ℕ, ◌+◌, ◌≤◌, ◌<◌, Bool, true, false, cond, List, [], ◌∷◌, sym, subst, arith}
use Rattle.std.specs.Prelude.{Option, Some, None, IfSome, unwrap_or}
use Rattle.std.specs.Ordering.{nat_cmp, eq_by_cmp}
use Rattle.std.specs.Cmp.Lexicographic.{slice_cmp, nat_list_cmp_total}
use Rattle.std.specs.FinMap.{get-empty, get-insert}
use Rattle.std.specs.FinMap as finite
use Rattle.plai_lex.specs.declared.token.Token.{Token}
use Rattle.plai_lex.specs.declared.token.TokenKind.{TokenKind}
use Rattle.plai_lex.specs.declared.token.TokenKind.TheVariants as token
use Rattle.plai_reader.specs.declared.variables.Variables.{Variables}
use Rattle.plai_reader.specs.Variables.{no_variables, is_blank, known, counted, number_at, after_token, after_tokens}

-- a name's number is below the count
abbrev pub IsNumbering : Variables → Type 0
IsNumbering vs = (name : List ℕ) → IfSome (finite.get vs.numbers name) (λ n. n < vs.count)

pub no_variables-IsNumbering : IsNumbering no_variables
no_variables-IsNumbering name = subst (λ o. IfSome o (λ n. n < 0)) (sym (get-empty (slice_cmp nat_cmp) name)) tt

known-below : (vs : Variables) (name : List ℕ) → IsNumbering vs → IfSome (known vs name) (λ n. n < vs.count)
known-below vs name h =
    elim (is_blank name) as (λ b. IfSome (cond b None (finite.get vs.numbers name)) (λ n. n < vs.count)) [ true ↦ tt | false ↦ h name ]

below_more : (o : Option ℕ) (m : ℕ) → IfSome o (λ n. n < m) → IfSome o (λ n. n < m + 1)
below_more None m h = tt
below_more (Some n) m h = omega arith

inserted-below : (b : Bool) (o : Option ℕ) (m : ℕ) → IfSome o (λ n. n < m) → IfSome (cond b (Some m) o) (λ n. n < m + 1)
inserted-below true o m h = omega arith
inserted-below false o m h = below_more o m h

counted-IsNumbering : (vs : Variables) (name : List ℕ) (o : Option ℕ) → IsNumbering vs → IsNumbering (counted vs name o)
counted-IsNumbering vs name (Some n) h q = h q
counted-IsNumbering vs name None h q =
    elim (is_blank name) as (λ b. IfSome (finite.get (cond b vs.numbers (finite.insert vs.numbers name vs.count)) q) (λ n. n < vs.count + 1)) [
      | true ↦ below_more (finite.get vs.numbers q) vs.count (h q)
      | false ↦ subst (λ o. IfSome o (λ n. n < vs.count + 1)) (sym (get-insert nat_list_cmp_total vs.numbers name vs.count q))
          (inserted-below (eq_by_cmp (slice_cmp nat_cmp) q name) (finite.get vs.numbers q) vs.count (h q))
    ]

pub after_token-IsNumbering : (vs : Variables) (kind : TokenKind) → IsNumbering vs → IsNumbering (after_token vs kind)
after_token-IsNumbering vs (token.Var name) h = counted-IsNumbering vs name (known vs name) h
after_token-IsNumbering vs (token.Name name) h = h
after_token-IsNumbering vs (token.Quoted name) h = h
after_token-IsNumbering vs (token.Int n) h = h
after_token-IsNumbering vs (token.Text text) h = h
after_token-IsNumbering vs token.Open h = h
after_token-IsNumbering vs token.Close h = h
after_token-IsNumbering vs token.OpenList h = h
after_token-IsNumbering vs token.CloseList h = h
after_token-IsNumbering vs token.Comma h = h
after_token-IsNumbering vs token.Bar h = h
after_token-IsNumbering vs token.End h = h

-- the number of a variable is below the count behind it
number-below : (vs : Variables) (name : List ℕ) (o : Option ℕ) → IfSome o (λ n. n < vs.count) → unwrap_or o vs.count < (counted vs name o).count
number-below vs name None h = omega arith
number-below vs name (Some n) h = h

counted-grows : (vs : Variables) (name : List ℕ) (o : Option ℕ) → (vs.count ≤ (counted vs name o).count) × ((counted vs name o).count ≤ vs.count + 1)
counted-grows vs name None = (omega arith, omega arith)
counted-grows vs name (Some n) = (omega arith, omega arith)

pub after_token-grows : (vs : Variables) (kind : TokenKind) → (vs.count ≤ (after_token vs kind).count) × ((after_token vs kind).count ≤ vs.count + 1)
after_token-grows vs (token.Var name) = counted-grows vs name (known vs name)
after_token-grows vs (token.Name name) = (omega arith, omega arith)
after_token-grows vs (token.Quoted name) = (omega arith, omega arith)
after_token-grows vs (token.Int n) = (omega arith, omega arith)
after_token-grows vs (token.Text text) = (omega arith, omega arith)
after_token-grows vs token.Open = (omega arith, omega arith)
after_token-grows vs token.Close = (omega arith, omega arith)
after_token-grows vs token.OpenList = (omega arith, omega arith)
after_token-grows vs token.CloseList = (omega arith, omega arith)
after_token-grows vs token.Comma = (omega arith, omega arith)
after_token-grows vs token.Bar = (omega arith, omega arith)
after_token-grows vs token.End = (omega arith, omega arith)

pub after_tokens-grows : (vs : Variables) (ts : List Token) → vs.count ≤ (after_tokens vs ts).count
after_tokens-grows vs [] = omega arith
after_tokens-grows vs (x ∷ xs) =
    let p = (after_token-grows vs x.kind).0 in
    let q = after_tokens-grows (after_token vs x.kind) xs in
    omega arith

-- the number of this token is below the limit, if it is a variable
abbrev pub IsBelow : ℕ → TokenKind → ℕ → Type 0
IsBelow limit (token.Var name) n = n < limit
IsBelow limit _ n = Unit {0}

pub number_at-below : (vs : Variables) (kind : TokenKind) (limit : ℕ) → IsNumbering vs → (after_token vs kind).count ≤ limit
    → IsBelow limit kind (number_at vs kind)
number_at-below vs (token.Var name) limit h p =
    let q = number-below vs name (known vs name) (known-below vs name h) in
    omega arith
number_at-below vs (token.Name name) limit h p = tt
number_at-below vs (token.Quoted name) limit h p = tt
number_at-below vs (token.Int n) limit h p = tt
number_at-below vs (token.Text text) limit h p = tt
number_at-below vs token.Open limit h p = tt
number_at-below vs token.Close limit h p = tt
number_at-below vs token.OpenList limit h p = tt
number_at-below vs token.CloseList limit h p = tt
number_at-below vs token.Comma limit h p = tt
number_at-below vs token.Bar limit h p = tt
number_at-below vs token.End limit h p = tt
