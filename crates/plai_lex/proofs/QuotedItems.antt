-- Quoted tokens item by item.
use Rattle.std.proofs.Common.{◌≡◌, ℕ, zero, suc, ◌+◌, ◌≤◌, Bool, true, false, cond, nat_eq, codes, Option, None, Some, List, [], ◌∷◌, ◌++◌, length, drop}
use Rattle.std.proofs.Common.{refl, ap, arith, length-drop, append_assoc, ◌∙◌}
use Rattle.std.specs.List.{starts_with}
use Rattle.std.proofs.lemmas.List.{drop-drop}
use Rattle.plai_lex.specs.declared.quoted.Character.{Character}
use Rattle.plai_lex.specs.declared.quoted.Item.{Item}
use Rattle.plai_lex.specs.declared.quoted.Item.TheVariants.{Close, Continuation, Code, Unclosed, Refused}
use Rattle.plai_lex.specs.declared.fail.LexCause.TheVariants.{BadCharacter}
use Rattle.plai_lex.specs.declared.quoted.Body.{Body}
use Rattle.plai_lex.specs.declared.quoted.Body.TheVariants.{Closed, Broken}
use Rattle.plai_lex.specs.Quoted.{item_at, is_plain, escape_at, escaped, with_item, preceded, quoted_within, quoted_from}

-- an item that gives a character has a byte at least
abbrev Long : Item → Type 0
Long (Code c) = 1 ≤ c.len
Long Close = Unit {0}
Long Continuation = Unit {0}
Long Unclosed = Unit {0}
Long (Refused cause) = Unit {0}

either : (b : Bool) (x y : Item) → Long x → Long y → Long (cond b x y)
either true x y p q = p
either false x y p q = q

escaped-Long : (o : Option Character) → Long (escaped o)
escaped-Long None = tt
escaped-Long (Some c) = omega arith

item-Long : (quote : ℕ) (text : List ℕ) → Long (item_at quote text)
item-Long quote [] = tt
item-Long quote (b ∷ bs) =
    let two : 1 ≤ 2 = omega arith in let one : 1 ≤ 1 = omega arith in
    either (nat_eq b quote) _ _ (either (starts_with nat_eq bs (quote ∷ [])) (Code (record { code = quote; len = 2 })) Close two tt)
    (either (nat_eq b 92) _ _ (either (starts_with nat_eq bs (codes "\n")) Continuation (escaped (escape_at bs)) tt (escaped-Long (escape_at bs)))
    (either (nat_eq b 10) Unclosed _ tt (either (is_plain quote b) (Code (record { code = b; len = 1 })) (Refused BadCharacter) one tt)))

-- the rest of an item is asked for at one byte at least
with_item-same : (item : Item) (at : ℕ) (f g : ℕ → Body) → Long item → ((k : ℕ) → 1 ≤ k → f k ≡ g k) → with_item item at f ≡ with_item item at g
with_item-same Close at f g long same = refl
with_item-same Continuation at f g long same = same 2 (omega arith)
with_item-same (Code c) at f g long same = ap (preceded c.code) (same c.len long)
with_item-same Unclosed at f g long same = refl
with_item-same (Refused cause) at f g long same = refl

-- any bound from the length on gives the same
within-same : (n m quote at : ℕ) (text : List ℕ) → length text ≤ n → length text ≤ m → quoted_within n quote at text ≡ quoted_within m quote at text
within-same zero zero quote at text p q = refl
within-same zero (suc m) quote at [] p q = refl
within-same zero (suc m) quote at (b ∷ bs) p q = absurd (omega arith)
within-same (suc n) zero quote at [] p q = refl
within-same (suc n) zero quote at (b ∷ bs) p q = absurd (omega arith)
within-same (suc n) (suc m) quote at text p q =
    with_item-same (item_at quote text) at _ _ (item-Long quote text) (λ k one. within-same n m quote (at + k) (drop k text)
    (omega (arith, length-drop k text)) (omega (arith, length-drop k text)))

-- one item and those behind it
quoted_from-item : (quote at : ℕ) (text : List ℕ)
    → quoted_from quote at text ≡ with_item (item_at quote text) at (λ k. quoted_from quote (at + k) (drop k text))
quoted_from-item quote at [] = refl
quoted_from-item quote at (b ∷ bs) =
    with_item-same (item_at quote (b ∷ bs)) at _ _ (item-Long quote (b ∷ bs))
    (λ k one. within-same (length bs) (length (drop k (b ∷ bs))) quote (at + k) (drop k (b ∷ bs))
    (omega (arith, length-drop k (b ∷ bs))) (omega arith))

-- a token with codes before its own
abbrev pub prepended : List ℕ → Body → Body
prepended codes (Closed more len) = Closed (codes ++ more) len
prepended codes (Broken cause at) = Broken cause at

prepended-preceded : (codes : List ℕ) (code : ℕ) (body : Body) → prepended (codes ++ code ∷ []) body ≡ prepended codes (preceded code body)
prepended-preceded codes code (Closed more len) = ap (λ c. Closed c len) (append_assoc codes (code ∷ []) more)
prepended-preceded codes code (Broken cause at) = refl

-- a character is read
pub reads_code : (quote at : ℕ) (text codes more : List ℕ) (c : Character) (whole : Body) → Code c ≡ item_at quote (drop at text) → more ≡ codes ++ c.code ∷ []
    → prepended codes (quoted_from quote at (drop at text)) ≡ whole
    → prepended more (quoted_from quote (at + c.len) (drop (at + c.len) text)) ≡ whole
reads_code quote at text codes more c whole item grown old =
    let now = rw (quoted_from-item quote at (drop at text), ← item, drop-drop c.len at text) at old in
    rw grown (prepended-preceded codes c.code _ ∙ now)

-- a continued line is read
pub reads_nothing : (quote at : ℕ) (text codes : List ℕ) (whole : Body) → Continuation ≡ item_at quote (drop at text)
    → prepended codes (quoted_from quote at (drop at text)) ≡ whole
    → prepended codes (quoted_from quote (at + 2) (drop (at + 2) text)) ≡ whole
reads_nothing quote at text codes whole item old = rw (quoted_from-item quote at (drop at text), ← item, drop-drop 2 at text) at old
