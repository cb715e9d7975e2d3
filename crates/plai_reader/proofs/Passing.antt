-- What the reader's loop keeps.
use Rattle.std.proofs.Common.{◌≡◌, ◌+◌, ◌≤◌, false, cond, List, ◌∷◌, length, refl, ap, sym, ◌∙◌, subst, arith}
use Rattle.std.specs.Prelude.{Some, option_and_then, All}
use Rattle.std.proofs.lemmas.List.Elements.{All-tail}
use Rattle.plai_lex.specs.declared.token.Token.{Token}
use Rattle.plai_reader.specs.declared.tree.Tree.{Tree}
use Rattle.plai_reader.specs.Climb.{climbing}
use Rattle.plai_reader.specs.Operators.{Table}
use Rattle.plai_reader.specs.Variables.{no_variables, after_token, after_tokens}
use Rattle.plai_reader.specs.Roles.{is_end}
use Rattle.plai_reader.specs.Reading.{State, start, last, stepped, run, read_of}
use Rattle.plai_reader.specs.Limits.{kept_trees}
use Rattle.plai_lex.specs.Tokens.{IsWritten}
use Rattle.plai_reader.proofs.Numbers.{after_token-grows}
use Rattle.plai_reader.proofs.Readings.{read-is}
use Rattle.plai_reader.proofs.Runs.{VariablesAre, stepped-variables}

-- a state before the tokens that are left gives what all tokens give from the start
pub record Passes (table : Table) (tokens rest : List Token) (s : State Tree) : Type 0 where
  pub tree : run kept_trees (climbing kept_trees) table s rest ≡ read_of kept_trees table tokens
  pub numbers : after_tokens s.variables rest ≡ after_tokens no_variables tokens
  pub few : s.variables.count + length rest ≤ length tokens
  pub written : All (λ token. IsWritten token.kind) rest

module _ (table : Table) (tokens : List Token) where
  pub passes_start : All (λ token. IsWritten token.kind) tokens → Passes table tokens tokens start
  passes_start w = record { tree = sym (read-is kept_trees table tokens); numbers = refl; few = omega arith; written = w }

  pub passes_next : (s t : State Tree) (x : Token) (xs : List Token) → Passes table tokens (x ∷ xs) s → is_end x.kind ≡ false
      → stepped kept_trees (climbing kept_trees) table s x xs ≡ Some t → Passes table tokens xs t
  passes_next s t x xs p e h =
      let vs : t.variables ≡ after_token s.variables x.kind =
      subst (VariablesAre (after_token s.variables x.kind)) h (stepped-variables kept_trees (climbing kept_trees) table s x xs) in
      let grows = (after_token-grows s.variables x.kind).1 in
      let few = p.few in
      let counts = ap (λ vs. vs.count) vs in
      record {
        tree = sym (ap (λ b. cond b (last (climbing kept_trees) s xs)
            (option_and_then (λ u. run kept_trees (climbing kept_trees) table u xs) (stepped kept_trees (climbing kept_trees) table s x xs))) e
            ∙ ap (option_and_then (λ u. run kept_trees (climbing kept_trees) table u xs)) h) ∙ p.tree;
        numbers = ap (λ vs. after_tokens vs xs) vs ∙ p.numbers;
        few = omega arith;
        written = All-tail (λ token. IsWritten token.kind) x xs p.written;
      }
