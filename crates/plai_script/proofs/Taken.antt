-- The terms of a script, one at a time.
use Rattle.std.proofs.Common.{◌≡◌, ◌∙◌, ℕ, ◌+◌, Bool, true, false, cond, Option, Some, None, Result, Ok, Err, Vec, Global, List, [], ◌∷◌, ◌++◌, map, length}
use Rattle.std.proofs.Common.{append_assoc, append-nil, refl, sym, ap, subst, arith}
use Rattle.plai_lex.specs.declared.token.Token.{Token}
use Rattle.plai_lex.specs.Tokens.{Failure, Tokens, tokens_of, with_tokens}
use Rattle.plai_reader.specs.Roles.{is_end}
use Rattle.plai_clauses.specs.declared.edit_cause.EditCause.{EditCause}
use Rattle.plai_sources.specs.declared.cause.LoadCause.{LoadCause}
use Rattle.plai_sources.specs.declared.cause.LoadCause.TheVariants as load
use Rattle.plai_sources.specs.declared.stop.TermFail.TheVariants as term
use Rattle.plai_sources.specs.Items.{Split, with_first, split, last_cause}
use Rattle.plai_sources.specs.Answering.{AreInside, IsWhole, Takes}
use Rattle.plai_script.specs.declared.edit.Edit.{Edit}
use Rattle.plai_script.specs.declared.fail.ScriptFail.{ScriptFail}
use Rattle.plai_script.specs.declared.fail.ScriptFail.TheVariants as script
use Rattle.plai_script.specs.Scripts.{ScriptRefusal, item_of, last_items, script_under, script_of_tokens, script_of}
use Rattle.plai_script.specs.Answering.{AnswersScript, behind, ended_by, Stops, TakesTerm}

-- tokens before a full stop, and the full stop
with_one : (b : Bool) (x : Token) (s : Split) (e : b ≡ false)
    → cond b (record { terms = (x ∷ []) ∷ s.terms; rest = s.rest }) (with_first x s.terms s.rest) ≡ with_first x s.terms s.rest
with_one false x s e = refl
with_one true x s e = absurd cc

split-whole : (xs : List Token) (last : Token) (rest : List Token) → AreInside xs → is_end last.kind ≡ true
    → split ((xs ++ last ∷ []) ++ rest) ≡ record { terms = (xs ++ last ∷ []) ∷ (split rest).terms; rest = (split rest).rest }
split-whole [] last rest h e =
    ap (λ b. cond b (record { terms = (last ∷ []) ∷ (split rest).terms; rest = (split rest).rest }) (with_first last (split rest).terms (split rest).rest)) e
split-whole (x ∷ xs) last rest h e =
    let s : Split = split ((xs ++ last ∷ []) ++ rest) in
    with_one (is_end x.kind) x s h.0
    ∙ ap (λ (t : Split). with_first x t.terms t.rest) (split-whole xs last rest h.1 e)

module _ (number : ℕ) (tokens : List Token) where
  under : (o : Option Failure) (s : Split)
      → script_under o number (record { terms = tokens ∷ s.terms; rest = s.rest }) ≡ behind (item_of tokens ∷ []) (script_under o (number + 1) s)
  under None s = refl
  under (Some f) s =
      let n : number + length (tokens ∷ s.terms) ≡ number + 1 + length s.terms = omega arith in
      ap (λ k. let r : ScriptRefusal = record { term = k; cause = f.cause; at = f.at } in Err r) n

  takes_term : (left : Tokens) → IsWhole tokens
      → script_of_tokens number (with_tokens tokens left) ≡ behind (item_of tokens ∷ []) (script_of_tokens (number + 1) left)
  takes_term left w =
      let same : split (tokens ++ left.tokens) ≡ record { terms = tokens ∷ (split left.tokens).terms; rest = (split left.tokens).rest } =
      ap (λ ts. split (ts ++ left.tokens)) w.is ∙ split-whole w.before w.last left.tokens w.inside w.ends
      ∙ ap (λ ts. let s : Split = record { terms = ts ∷ (split left.tokens).terms; rest = (split left.tokens).rest } in s) (sym w.is) in
      ap (script_under left.failure number) same ∙ under left.failure (split left.tokens)

behind_both : (items : List (Result Edit EditCause)) (x : Result Edit EditCause) (r : Result (List (Result Edit EditCause)) ScriptRefusal)
    → behind items (behind (x ∷ []) r) ≡ behind (items ++ x ∷ []) r
behind_both items x (Ok xs) = ap (λ l. Ok l) (sym (append_assoc items (x ∷ []) xs))
behind_both items x (Err r) = refl

-- one more term is read
pub goes_on : (whole : Result (List (Result Edit EditCause)) ScriptRefusal) (items after : List (Result Edit EditCause)) (number : ℕ) (left new : Tokens)
    (tokens : List Token) (x : Result Edit EditCause)
    → whole ≡ behind items (script_of_tokens number left) → IsWhole tokens → left ≡ with_tokens tokens new → x ≡ item_of tokens → after ≡ items ++ x ∷ []
    → whole ≡ behind after (script_of_tokens (number + 1) new)
goes_on whole items after number left new tokens x e w t i a =
    e ∙ ap (λ l. behind items (script_of_tokens number l)) t ∙ ap (behind items) (takes_term number tokens new w)
    ∙ behind_both items (item_of tokens) (script_of_tokens (number + 1) new)
    ∙ ap (λ y. behind (items ++ y ∷ []) (script_of_tokens (number + 1) new)) (sym i)
    ∙ ap (λ l. behind l (script_of_tokens (number + 1) new)) (sym a)

-- what is left is no whole term
module _ (number : ℕ) where
  ends : (o : Option Failure) (ts : List (List Token)) (rest : List Token) (cause : LoadCause) → ts ≡ [] → last_cause o rest ≡ Some cause
      → script_under o number (record { terms = ts; rest = rest }) ≡ ended_by number cause
  ends (Some f) ts rest cause e h =
      let is : load.Lex f.cause f.at ≡ cause = cc in
      let n : number + length ts ≡ number = let l = ap length e in omega arith in
      ap (λ k. let r : ScriptRefusal = record { term = k; cause = f.cause; at = f.at } in Err r) n ∙ ap (ended_by number) is
  ends None ts [] cause e h = absurd cc
  ends None ts (x ∷ xs) cause e h =
      let is : load.Syntax ≡ cause = cc in
      ap (λ l. Ok (map item_of l ++ last_items (x ∷ xs))) e ∙ ap (ended_by number) is

  pub take_found : (old new : Tokens) (items : List (Result Edit EditCause)) (found : Option (Vec Token Global)) → Takes old new (Ok found)
      → TakesTerm number old new items items (Ok found)
  take_found old new items (Some v) t = (t.0, t.1, refl)
  take_found old new items None t = ap (λ o. behind items (script_of_tokens number o)) t ∙ ap (λ l. Ok l) (append-nil items)

  pub take_stopped : (old new : Tokens) (before after : List (Result Edit EditCause)) (cause : LoadCause) (r : Result (Option (Vec Token Global)) ScriptFail)
      → Takes old new (Err (term.Refused cause)) → Stops number cause before after r → TakesTerm number old new before after r
  take_stopped old new before after cause (Ok (Some v)) t s = absurd s
  take_stopped old new before after cause (Ok None) t s =
      ap (behind before) (ends old.failure (split old.tokens).terms (split old.tokens).rest cause t.0 t.1) ∙ s
  take_stopped old new before after cause (Err script.Memory) t s = tt
  take_stopped old new before after cause (Err (script.Lex n c at)) t s =
      ends old.failure (split old.tokens).terms (split old.tokens).rest cause t.0 t.1 ∙ s

-- the beginning of a script
behind_none : (r : Result (List (Result Edit EditCause)) ScriptRefusal) → behind [] r ≡ r
behind_none (Ok xs) = refl
behind_none (Err r) = refl

pub begins : (text : List ℕ) (tokens : Tokens) (items : List (Result Edit EditCause)) → tokens ≡ tokens_of text → items ≡ []
    → script_of text ≡ behind items (script_of_tokens 1 tokens)
unfolding script_of
begins text tokens items e f =
    ap (script_of_tokens 1) (sym e) ∙ sym (behind_none (script_of_tokens 1 tokens)) ∙ ap (λ l. behind l (script_of_tokens 1 tokens)) (sym f)

-- a place without a token
pub refused_script : (whole : Result (List (Result Edit EditCause)) ScriptRefusal) (number : ℕ) (old new : Tokens)
    (before after : List (Result Edit EditCause)) (fail : ScriptFail) (res : Result (Vec (Result Edit EditCause) Global) ScriptFail)
    → whole ≡ behind before (script_of_tokens number old) → TakesTerm number old new before after (Err fail) → (y : ScriptFail) × (res ≡ Err y) × (y ≡ fail)
    → AnswersScript whole res
refused_script whole number old new before after script.Memory res e t q =
    let is : res ≡ Err script.Memory = q.1 ∙ ap (λ f. Err f) q.2 in subst (AnswersScript whole) (sym is) tt
refused_script whole number old new before after (script.Lex n c at) res e t q =
    let is : res ≡ Err (script.Lex n c at) = q.1 ∙ ap (λ f. Err f) q.2 in
    subst (AnswersScript whole) (sym is) (e ∙ ap (behind before) t)
