-- One term of a file, and the tokens of terms as they are taken.
use Rattle.std.proofs.Common.{◌≡◌, ◌∙◌, ℕ, ◌+◌, ◌≤◌, true, Option, Some, None, Result, Ok, Err, Vec, Global, List, [], ◌∷◌, ◌++◌, length, append_assoc}
use Rattle.std.proofs.Common.{append-nil, length-append, refl, sym, ap, subst, arith}
use Rattle.std.specs.Prelude.{All, IfOk, IfSome}
use Rattle.plai_lex.specs.declared.token.Token.{Token}
use Rattle.plai_lex.specs.Tokens.{Tokens, with_token, with_tokens, ended, IsWritten}
use Rattle.plai_reader.specs.Operators.{Table}
use Rattle.plai_reader.specs.Roles.{is_end}
use Rattle.plai_terms.specs.declared.read_term.ReadTerm.{ReadTerm}
use Rattle.plai_terms.specs.Readable.{IsReadable}
use Rattle.plai_sources.specs.declared.cause.LoadCause.{LoadCause}
use Rattle.plai_sources.specs.declared.cause.ItemsFail.{ItemsFail}
use Rattle.plai_sources.specs.declared.cause.ItemsFail.TheVariants as file
use Rattle.plai_sources.specs.declared.stop.TermFail.{TermFail}
use Rattle.plai_sources.specs.declared.stop.TermFail.TheVariants as term
use Rattle.plai_sources.specs.declared.items.Header.{Header}
use Rattle.plai_sources.specs.declared.items.Item.{Item}
use Rattle.plai_sources.specs.declared.items.FileItems.{FileItems}
use Rattle.plai_sources.specs.declared.reading.Reading.{Reading}
use Rattle.plai_sources.specs.Directives.{said_by}
use Rattle.plai_sources.specs.Items.{Refusal, refusal, split, last_cause, with_item_if, with_said, with_term_under, with_term, with_tokens as with_tokens_of}
use Rattle.plai_sources.specs.Items.{finished, finished_under, numbered, and_then, items_of_tokens}
use Rattle.plai_sources.specs.WellFormed.{IsGood, counted_items, AreWellFormedItems, AreWellFormedUnder}
use Rattle.plai_sources.specs.Answering.{Answers, AnswersFile, AreInside, IsWhole, TakesToken, Ends, Takes, Numbers}
use Rattle.plai_sources.proofs.Formed.{term-good}
use Rattle.plai_sources.proofs.Splits.{takes_whole, inside_terms, inside_rest}

-- a term behind the first one
pub add_said : (r : Reading) (n : ℕ) (read : ReadTerm) (h : Header) (ops : Table) (i : Option Item) (res : Result Reading TermFail) → r.header ≡ Some h
    → said_by h.module r.operators read ≡ Ok (record { operators = ops; item = i })
    → Answers (with_item_if (record { operators = ops; header = Some h; items = r.items; count = r.count }) n i) res → Answers (with_term r n read) res
add_said r n read h ops i res e said a =
    let same : with_term r n read ≡ with_item_if (record { operators = ops; header = Some h; items = r.items; count = r.count }) n i =
    ap (λ o. with_term_under o r n read) e ∙ ap (with_said r n) said
    ∙ ap (λ (o : Option Header). let s : Reading = record { operators = ops; header = o; items = r.items; count = r.count } in with_item_if s n i) e in
    subst (λ o. Answers o res) (sym same) a

pub good_if : (there : ℕ) (r : Reading) (n : ℕ) (read : ReadTerm) (res : Result Reading TermFail) → IsReadable read → Answers (with_term r n read) res
    → IsGood there r
    → IfOk res (IsGood there)
good_if there r n read (Ok s) readable a good = term-good there r s n read readable good a
good_if there r n read (Err fail) readable a good = tt

-- one more token is taken
pub one_taken : (all left new : Tokens) (ts after : List Token) (x : Token) → all ≡ with_tokens ts left → left ≡ with_token x new → after ≡ ts ++ x ∷ []
    → all ≡ with_tokens after new
one_taken all left new ts after x e f g =
    e ∙ ap (with_tokens ts) f
    ∙ (let s : with_tokens ts (with_token x new) ≡ with_tokens (ts ++ x ∷ []) new =
    ap (λ l. let t : Tokens = record { tokens = l; failure = new.failure } in t) (sym (append_assoc ts (x ∷ []) new.tokens)) in s)
    ∙ ap (λ l. with_tokens l new) (sym g)

pub whole_taken : (all left new : Tokens) (ts after : List Token) (x : Token) → AreInside ts → is_end x.kind ≡ true → all ≡ with_tokens ts left
    → left ≡ with_token x new → after ≡ ts ++ x ∷ []
    → IsWhole after × (all ≡ with_tokens after new)
whole_taken all left new ts after x inside ends e f g =
    (record { before = ts; last = x; inside = inside; ends = ends; is = g }, one_taken all left new ts after x e f g)

-- what is left when a place has no token
left_refused : (all left : Tokens) (ts : List Token) (cause : LoadCause) → AreInside ts → all ≡ with_tokens ts left → left.tokens ≡ []
    → last_cause left.failure ts ≡ Some cause
    → ((split all.tokens).terms ≡ []) × (last_cause all.failure (split all.tokens).rest ≡ Some cause)
left_refused all left ts cause inside e none some =
    let tokens : all.tokens ≡ ts = ap (λ (t : Tokens). t.tokens) e ∙ ap (λ l. ts ++ l) none ∙ append-nil ts in
    let failure : all.failure ≡ left.failure = ap (λ (t : Tokens). t.failure) e in (
      ap (λ l. (split l).terms) tokens ∙ inside_terms ts inside,
      ap (λ l. last_cause all.failure (split l).rest) tokens ∙ ap (last_cause all.failure) (inside_rest ts inside) ∙ ap (λ f. last_cause f ts) failure ∙ some,
    )

pub refused_token : (all left new : Tokens) (ts : List Token) (fail : TermFail) (r : Result (Option (Vec Token Global)) TermFail) → AreInside ts
    → all ≡ with_tokens ts left
    → TakesToken left new (Err fail) → (y : TermFail) × (r ≡ Err y) × (y ≡ fail) → Takes all new r
refused_token all left new ts (term.Memory) r inside e t q =
    let same : r ≡ Err term.Memory = q.1 ∙ ap (λ f. Err f) q.2 in subst (Takes all new) (sym same) tt
refused_token all left new ts (term.Refused cause) r inside e t q =
    let same : r ≡ Err (term.Refused cause) = q.1 ∙ ap (λ f. Err f) q.2 in
    subst (Takes all new) (sym same) (left_refused all left ts cause inside e t.0 (t.1 ts))

pub at_end : (all left new : Tokens) (ts : List Token) (given : Result (Option (Vec Token Global)) TermFail) → AreInside ts → all ≡ with_tokens ts left
    → left ≡ ended
    → Ends ts given → Takes all new given
at_end all left new ts (Ok None) inside e end h = e ∙ ap (λ l. with_tokens l left) h ∙ end
at_end all left new ts (Ok (Some v)) inside e end h = absurd h
at_end all left new ts (Err term.Memory) inside e end h = absurd h
at_end all left new ts (Err (term.Refused cause)) inside e end h =
    left_refused all left ts cause inside e (ap (λ (t : Tokens). t.tokens) end) (ap (λ (t : Tokens). last_cause t.failure ts) end ∙ h)

pub end_written : (ts : List Token) (given : Result (Option (Vec Token Global)) TermFail) → Ends ts given
    → IfOk given (λ found. IfSome found (λ (v : Vec Token Global). All (λ (x : Token). IsWritten x.kind) v.items))
end_written ts (Ok None) h = tt
end_written ts (Ok (Some v)) h = absurd h
end_written ts (Err fail) h = tt

-- the tokens of a whole term
pub taken : (old new : Tokens) (r : Result (Option (Vec Token Global)) TermFail) (o : Option (Vec Token Global)) (v : Vec Token Global) (ts : List Token)
    → Takes old new r → r ≡ Ok o → o ≡ Some v → ts ≡ v.items → IsWhole ts × (old ≡ with_tokens ts new)
taken old new r o v ts h e f g =
    let same : r ≡ Ok (Some v) = e ∙ ap (λ x. Ok x) f in
    let both : IsWhole v.items × (old ≡ with_tokens v.items new) = subst (Takes old new) same h in
    subst (λ l. IsWhole l × (old ≡ with_tokens l new)) (sym g) both

pub sizes : (old new : Tokens) (ts : List Token) → IsWhole ts → old ≡ with_tokens ts new → (1 ≤ length ts) × (length old.tokens ≡ length ts + length new.tokens)
sizes old new ts w e =
    let one : length (w.before ++ w.last ∷ []) ≡ length w.before + 1 = length-append w.before (w.last ∷ []) in
    let all : length ts ≡ length w.before + 1 = ap length w.is ∙ one in
    let sum : length (ts ++ new.tokens) ≡ length ts + length new.tokens = length-append ts new.tokens in
    (omega arith, ap (λ (t : Tokens). length t.tokens) e ∙ sum)

module _ (r : Reading) (n : ℕ) (ts : List Token) (left new : Tokens) (whole : Result FileItems Refusal) where
  -- one more term is read
  pub goes_on : (given : Result Reading TermFail) (next : Reading) → items_of_tokens r n left ≡ whole → IsWhole ts → left ≡ with_tokens ts new
      → Answers (with_tokens_of r n ts) given → given ≡ Ok next → items_of_tokens next (n + 1) new ≡ whole
  goes_on given next same w e a g =
      let read : with_tokens_of r n ts ≡ Ok next = subst (Answers (with_tokens_of r n ts)) g a in
      sym (ap (λ o. and_then (numbered n o) (λ next. items_of_tokens next (n + 1) new)) read)
      ∙ sym (takes_whole r n ts new w) ∙ sym (ap (items_of_tokens r n) e) ∙ same

  refused : (cause : LoadCause) → items_of_tokens r n left ≡ whole → IsWhole ts → left ≡ with_tokens ts new
      → with_tokens_of r n ts ≡ Err cause → whole ≡ Err (refusal n cause)
  refused cause same w e a =
      sym same ∙ ap (items_of_tokens r n) e ∙ takes_whole r n ts new w ∙ ap (λ o. and_then (numbered n o) (λ next. items_of_tokens next (n + 1) new)) a

  -- the term is refused
  pub stops : (given : Result Reading TermFail) (fail : ItemsFail) (res : Result FileItems ItemsFail) → items_of_tokens r n left ≡ whole → IsWhole ts
      → left ≡ with_tokens ts new
      → Answers (with_tokens_of r n ts) given → Numbers n given (Err fail) → (y : ItemsFail) × (res ≡ Err y) × (y ≡ fail) → AnswersFile whole res
  stops given (file.Memory) res same w e a g q =
      let is : res ≡ Err file.Memory = q.1 ∙ ap (λ f. Err f) q.2 in subst (AnswersFile whole) (sym is) tt
  stops given (file.Refused m cause) res same w e a g q =
      let is : res ≡ Err (file.Refused m cause) = q.1 ∙ ap (λ f. Err f) q.2 in
      let read : with_tokens_of r n ts ≡ Err cause = subst (Answers (with_tokens_of r n ts)) g.1 a in
      subst (AnswersFile whole) (sym is) (refused cause same w e read ∙ ap (λ k. Err (refusal k cause)) (sym g.0))

-- what is kept of a file is well formed
finished-formed : (there : ℕ) (o : Option Header) (r : Reading) (f : FileItems) → r.header ≡ o → IsGood there r → finished_under o r ≡ Ok f
    → AreWellFormedItems f
finished-formed there None r f e good h = absurd cc
finished-formed there (Some header) r f e good h =
    let made : FileItems = record { «module» = header.module; exports = header.exports; items = r.items; count = r.count } in
    let is : made ≡ f = cc in
    subst AreWellFormedItems is (subst (λ o. AreWellFormedUnder o r.items) e good.items)

pub finishes-formed : (there : ℕ) (r : Reading) (res : Result FileItems ItemsFail) → IsGood there r → AnswersFile (finished r) res → IfOk res AreWellFormedItems
finishes-formed there r (Ok f) good a = finished-formed there r.header r f refl good a
finishes-formed there r (Err fail) good a = tt

finished-counted : (there : ℕ) (o : Option Header) (r : Reading) (f : FileItems) → IsGood there r → finished_under o r ≡ Ok f
    → f.count ≡ there + counted_items f.items
finished-counted there None r f good h = absurd cc
finished-counted there (Some header) r f good h =
    let made : FileItems = record { «module» = header.module; exports = header.exports; items = r.items; count = r.count } in
    let is : made ≡ f = cc in
    subst (λ (g : FileItems). g.count ≡ there + counted_items g.items) is good.count

-- the count goes on by what is kept
pub finishes-counted : (there : ℕ) (r : Reading) (res : Result FileItems ItemsFail) → IsGood there r → AnswersFile (finished r) res
    → IfOk res (λ f. f.count ≡ there + counted_items f.items)
finishes-counted there r (Ok f) good a = finished-counted there r.header r f good a
finishes-counted there r (Err fail) good a = tt

pub good_next : (there : ℕ) (given : Result Reading TermFail) (next : Reading) → IfOk given (IsGood there) → given ≡ Ok next → IsGood there next
good_next there given next h e = subst (λ (g : Result Reading TermFail). IfOk g (IsGood there)) e h
