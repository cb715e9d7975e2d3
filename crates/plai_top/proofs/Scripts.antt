-- What a script's text decides.
use Rattle.std.proofs.Common.{◌≡◌, ◌⊎◌, ◌<◌, ◌≤◌, ℕ, List, None, Some, Err, IfSome, length, sym, subst, inl, inr}
use Rattle.std.specs.declared.option.Option.{Option}
use Rattle.plai_script.specs.Scripts.{ScriptRefusal, script_of}
use Rattle.plai_top.specs.Outcome.{line, silent, longest_script, IsByScript, script_too_long, script_refused}
use Rattle.plai_top.specs.Refusal.{script_refusal_text}
use Rattle.plai_top.specs.Stops.{status_of, IsReadEnd}
use Rattle.plai_top.specs.declared.stop.Stop.{Stop}
use Rattle.plai_top.specs.declared.stop.Stop.TheVariants.{TooLarge}

module _ (text : List ℕ) (short : length text ≤ longest_script) where
  -- a place without a token
  pub refused_line : (refusal : ScriptRefusal) (bytes : List ℕ) → script_of text ≡ Err refusal → bytes ≡ script_refusal_text refusal
      → IsByScript text (line bytes)
  refused_line refusal bytes read is = subst (λ b. IsByScript text (line b)) (sym is) (script_refused refusal short read)

-- too many bytes
pub long_stop : (left : Option (List ℕ)) (stop : Stop) → IsReadEnd stop ⊎ ((stop ≡ TooLarge) × IfSome left (λ text. longest_script < length text))
    → IsReadEnd stop ⊎ IfSome left (λ text. IsByScript text (silent (status_of stop)))
long_stop left stop (inl read) = inl read
long_stop None stop (inr (is, long)) = inr tt
long_stop (Some text) stop (inr (is, long)) = inr (rw is (script_too_long long))

-- the text is the script's
pub text_told : (left : Option (List ℕ)) (text : List ℕ) (P : List ℕ → Type 0) → IfSome left (λ told. text ≡ told) → P text → IfSome left P
text_told None text P is holds = tt
text_told (Some told) text P is holds = subst P is holds
