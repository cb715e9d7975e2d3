-- The text of a term, piece by piece.
use Rattle.std.proofs.Common.{◌≡◌, ◌<◌, ℕ, ℤ, ◌+◌, ◌*◌, List, [], ◌∷◌, ◌++◌, map, flat_map, length, reverse, refl, sym, ap, ◌∙◌, append_assoc, arith, rules}
use Rattle.std.proofs.Common.{codes, decimal, Result, Ok, Err, OnOk}
use Rattle.std.specs.Fmt.{signed_decimal}
use Rattle.std.specs.List.{join_with_byte}
use Rattle.std.proofs.lemmas.List.{append-nil, map-append, reverse-append}
use Rattle.plai_terms.specs.Atom.{atom_text}
use Rattle.plai_terms.specs.Preorder.{arguments_of}
use Rattle.plai_terms.specs.Pieces.{Part, Byte, Whole, part_of, parts_of, head_text, behind_head, listed, written_at, parts_behind}
use Rattle.plai_terms.specs.Print.{text_of}
use Rattle.plai_terms.specs.declared.term.Term.{Term, Var, Int, Atom, Compound, the_lemmas}
use Rattle.plai_terms.specs.declared.print.Piece.{Piece}
use Rattle.plai_terms.proofs.Preorder.{arguments_of-Compound}
use Rattle.plai_terms.proofs.LetGo.{count_in, count_first, count_of}
use Rattle.plai_terms.proofs.Terms.{induction}

-- ---- what is written at a term

pub head_text-Var : (v : ℕ) → head_text (Var v) ≡ codes "_" ++ decimal v
unfolding head_text
head_text-Var v = search (rules, the_lemmas)

pub head_text-Int : (n : ℤ) → head_text (Int n) ≡ signed_decimal n
unfolding head_text
head_text-Int n = search (rules, the_lemmas)

pub head_text-Atom : (a : List ℕ) → head_text (Atom a) ≡ atom_text a
unfolding head_text
head_text-Atom a = search (rules, the_lemmas)

pub head_text-Compound : (name : List ℕ) (args : List Term) → head_text (Compound name args) ≡ atom_text name ++ codes "("
unfolding head_text
head_text-Compound name args = search (rules, the_lemmas)

pub behind-Var : (v : ℕ) → behind_head (Var v) ≡ []
unfolding behind_head
behind-Var v = search (rules, the_lemmas)

pub behind-Int : (n : ℤ) → behind_head (Int n) ≡ []
unfolding behind_head
behind-Int n = search (rules, the_lemmas)

pub behind-Atom : (a : List ℕ) → behind_head (Atom a) ≡ []
unfolding behind_head
behind-Atom a = search (rules, the_lemmas)

pub behind-none : (name : List ℕ) → behind_head (Compound name []) ≡ Byte 41 ∷ []
unfolding behind_head
behind-none name = search (rules, the_lemmas)

pub behind-some : (name : List ℕ) (t : Term) (ts : List Term) → behind_head (Compound name (t ∷ ts)) ≡ listed 41 (t ∷ ts)
unfolding behind_head
behind-some name t ts = search (rules, the_lemmas)

-- ---- the text of parts

abbrev pub part_text : Part → List ℕ
part_text (Byte b) = b ∷ []
part_text (Whole t) = text_of t

abbrev pub parts_text : List Part → List ℕ
parts_text = flat_map part_text

parts_text-append : (ps qs : List Part) → parts_text (ps ++ qs) ≡ parts_text ps ++ parts_text qs
parts_text-append [] qs = refl
parts_text-append (p ∷ ps) qs = ap (λ z. part_text p ++ z) (parts_text-append ps qs) ∙ sym (append_assoc (part_text p) (parts_text ps) (parts_text qs))

listed_text : (t : Term) (ts : List Term) → parts_text (listed 41 (t ∷ ts)) ≡ join_with_byte 44 (map text_of (t ∷ ts)) ++ 41 ∷ []
listed_text t [] = refl
listed_text t (u ∷ us) =
    ap (λ z. text_of t ++ 44 ∷ z) (listed_text u us) ∙ sym (append_assoc (text_of t) (44 ∷ join_with_byte 44 (map text_of (u ∷ us))) (41 ∷ []))

text-Compound : (name : List ℕ) (args : List Term)
    → text_of (Compound name args) ≡ atom_text name ++ codes "(" ++ join_with_byte 44 (map text_of args) ++ codes ")"
text-Compound name args = search (rules, the_lemmas)

unfolded : (t : Term) → text_of t ≡ head_text t ++ parts_text (behind_head t)
unfolded = induction (λ t. text_of t ≡ head_text t ++ parts_text (behind_head t))
    (λ v. leaf (Var v) (codes "_" ++ decimal v) (search (rules, the_lemmas)) (head_text-Var v) (behind-Var v))
    (λ n. leaf (Int n) (signed_decimal n) (search (rules, the_lemmas)) (head_text-Int n) (behind-Int n))
    (λ a. leaf (Atom a) (atom_text a) (search (rules, the_lemmas)) (head_text-Atom a) (behind-Atom a))
    (λ name args h. compound name args)
  where
    leaf : (t : Term) (bs : List ℕ) → text_of t ≡ bs → head_text t ≡ bs → behind_head t ≡ [] → text_of t ≡ head_text t ++ parts_text (behind_head t)
    leaf t bs e h b = e ∙ sym (append-nil bs) ∙ ap (λ z. z ++ []) (sym h) ∙ ap (λ z. head_text t ++ parts_text z) (sym b)

    compound : (name : List ℕ) (args : List Term)
        → text_of (Compound name args) ≡ head_text (Compound name args) ++ parts_text (behind_head (Compound name args))
    compound name [] =
        text-Compound name [] ∙ ap (λ z. z ++ codes ")") (append-nil (atom_text name ++ codes "("))
        ∙ ap (λ z. z ++ codes ")") (sym (head_text-Compound name [])) ∙ ap (λ z. head_text (Compound name []) ++ parts_text z) (sym (behind-none name))
    compound name (t ∷ ts) =
        text-Compound name (t ∷ ts) ∙ append_assoc (atom_text name ++ codes "(") (join_with_byte 44 (map text_of (t ∷ ts))) (codes ")")
        ∙ ap (λ z. z ++ (join_with_byte 44 (map text_of (t ∷ ts)) ++ codes ")")) (sym (head_text-Compound name (t ∷ ts)))
        ∙ ap (λ z. head_text (Compound name (t ∷ ts)) ++ z) (sym (listed_text t ts))
        ∙ ap (λ z. head_text (Compound name (t ∷ ts)) ++ parts_text z) (sym (behind-some name t ts))

part_unfolded : (p : Part) → part_text p ≡ written_at p ++ parts_text (parts_behind p)
part_unfolded (Byte b) = refl
part_unfolded (Whole t) = unfolded t

-- ---- the loop that puts arguments to the pieces that wait

listed-push : (last : ℕ) (ts : List Term) (t : Term) → listed last (ts ++ t ∷ []) ≡ listed 44 ts ++ Whole t ∷ Byte last ∷ []
listed-push last [] t = refl
listed-push last (u ∷ []) t = refl
listed-push last (u ∷ (v ∷ vs)) t = ap (λ z. Whole u ∷ Byte 44 ∷ z) (listed-push last (v ∷ vs) t)

parts-push : (ps : List Piece) (p : Piece) → parts_of (ps ++ p ∷ []) ≡ parts_of ps ++ part_of p ∷ []
parts-push ps p = map-append part_of ps (p ∷ [])

pub reverse-push : (ps : List Piece) (p : Piece) → reverse (parts_of (ps ++ p ∷ [])) ≡ part_of p ∷ reverse (parts_of ps)
reverse-push ps p = ap reverse (parts-push ps p) ∙ reverse-append (parts_of ps) (part_of p ∷ [])

pub puts_last : (behind : ℕ) (left before : List Term) (last : Term) (waiting next after : List Piece) (p q : Piece) (whole : List Part)
    → left ≡ before ++ last ∷ [] → part_of p ≡ Byte behind → part_of q ≡ Whole last → next ≡ waiting ++ p ∷ [] → after ≡ next ++ q ∷ []
    → listed behind left ++ reverse (parts_of waiting) ≡ whole → listed 44 before ++ reverse (parts_of after) ≡ whole
puts_last behind left before last waiting next after p q whole l b t n a e =
    ap (λ z. listed 44 before ++ z)
    (ap (λ z. reverse (parts_of z)) a ∙ reverse-push next q ∙ ap (λ z. z ∷ reverse (parts_of next)) t
    ∙ ap (λ z. Whole last ∷ reverse (parts_of z)) n ∙ ap (λ z. Whole last ∷ z) (reverse-push waiting p)
    ∙ ap (λ z. Whole last ∷ z ∷ reverse (parts_of waiting)) b)
    ∙ sym (append_assoc (listed 44 before) (Whole last ∷ Byte behind ∷ []) (reverse (parts_of waiting)))
    ∙ ap (λ z. z ++ reverse (parts_of waiting)) (sym (listed-push behind before last))
    ∙ ap (λ z. listed behind z ++ reverse (parts_of waiting)) (sym l)
    ∙ e

-- ---- the loop that writes

pub writes_on : (out next : List ℕ) (waiting rest after : List Piece) (p : Piece) (whole : List ℕ)
    → waiting ≡ rest ++ p ∷ [] → next ≡ out ++ written_at (part_of p) → reverse (parts_of after) ≡ parts_behind (part_of p) ++ reverse (parts_of rest)
    → out ++ parts_text (reverse (parts_of waiting)) ≡ whole → next ++ parts_text (reverse (parts_of after)) ≡ whole
writes_on out next waiting rest after p whole w n a e =
    ap (λ z. z ++ parts_text (reverse (parts_of after))) n
    ∙ ap (λ z. (out ++ written_at (part_of p)) ++ parts_text z) a
    ∙ ap (λ z. (out ++ written_at (part_of p)) ++ z) (parts_text-append (parts_behind (part_of p)) (reverse (parts_of rest)))
    ∙ append_assoc out (written_at (part_of p)) (parts_text (parts_behind (part_of p)) ++ parts_text (reverse (parts_of rest)))
    ∙ ap (λ z. out ++ z) (sym (append_assoc (written_at (part_of p)) (parts_text (parts_behind (part_of p))) (parts_text (reverse (parts_of rest)))))
    ∙ ap (λ z. out ++ (z ++ parts_text (reverse (parts_of rest)))) (sym (part_unfolded (part_of p)))
    ∙ ap (λ z. out ++ parts_text z) (sym (ap (λ z. reverse (parts_of z)) w ∙ reverse-push rest p))
    ∙ e

-- ---- its measure

abbrev weight : Part → ℕ
weight (Byte b) = 1
weight (Whole t) = 2 + 3 * count_in (arguments_of t)

abbrev weights : List Part → ℕ
weights [] = 0
weights (p ∷ ps) = weight p + weights ps

weights-append : (ps qs : List Part) → weights (ps ++ qs) ≡ weights ps + weights qs
weights-append [] qs = omega arith
weights-append (p ∷ ps) qs = let h = weights-append ps qs in omega (arith, h)

listed_weight : (last : ℕ) (t : Term) (ts : List Term) → weights (listed last (t ∷ ts)) ≡ 3 * count_in (t ∷ ts)
listed_weight last t [] = let a = count_first t [] in let b = count_of t in omega (arith, a, b)
listed_weight last t (u ∷ us) =
    let a = count_first t (u ∷ us) in
    let b = count_of t in
    let h = listed_weight last u us in
    omega (arith, a, b, h)

behind_weight : (t : Term) → weights (behind_head t) < 2 + 3 * count_in (arguments_of t)
behind_weight = induction (λ t. weights (behind_head t) < 2 + 3 * count_in (arguments_of t))
    (λ v. let b = ap weights (behind-Var v) in omega (arith, b))
    (λ n. let b = ap weights (behind-Int n) in omega (arith, b))
    (λ a. let b = ap weights (behind-Atom a) in omega (arith, b))
    (λ name args h. compound name args)
  where
    compound : (name : List ℕ) (args : List Term) → weights (behind_head (Compound name args)) < 2 + 3 * count_in (arguments_of (Compound name args))
    compound name [] = let b = ap weights (behind-none name) in omega (arith, b)
    compound name (t ∷ ts) =
        let b = ap weights (behind-some name t ts) ∙ listed_weight 41 t ts in
        let c = ap count_in (arguments_of-Compound name (t ∷ ts)) in
        omega (arith, b, c)

part_weight : (p : Part) → weights (parts_behind p) < weight p
part_weight (Byte b) = omega arith
part_weight (Whole t) = behind_weight t

-- how much is still to be written
unfoldable pub pieces_left : List Piece → ℕ
pieces_left ps = weights (reverse (parts_of ps))

pub fewer_left : (waiting rest after : List Piece) (p : Piece) → waiting ≡ rest ++ p ∷ []
    → reverse (parts_of after) ≡ parts_behind (part_of p) ++ reverse (parts_of rest)
    → pieces_left after < pieces_left waiting
unfolding pieces_left
fewer_left waiting rest after p w a =
    let b = ap weights a ∙ weights-append (parts_behind (part_of p)) (reverse (parts_of rest)) in
    let c = ap (λ z. weights (reverse (parts_of z))) w ∙ ap weights (reverse-push rest p) in
    let d = part_weight (part_of p) in
    omega (arith, b, c, d)

-- ---- what the code answers

pub none_behind : {A B : Type 0} (r : Result A B) (t : Term) (ps : List Part) → behind_head t ≡ [] → OnOk r (ps ≡ behind_head t ++ ps)
none_behind (Ok x) t ps e = ap (λ z. z ++ ps) (sym e)
none_behind (Err x) t ps e = tt

pub compound_behind : (t : Term) (name : List ℕ) (args : List Term) → t ≡ Compound name args → 0 < length args → behind_head t ≡ listed 41 args
compound_behind t name [] e l = absurd (omega (arith, l))
compound_behind t name (a ∷ args) e l = ap behind_head e ∙ behind-some name a args

pub holds : {A B P : Type 0} (r : Result A B) → P → OnOk r P
holds (Ok x) p = p
holds (Err x) p = tt

pub written_head : {A B : Type 0} (r : Result A B) (next before out bs : List ℕ) (t : Term) → before ≡ out ++ bs → head_text t ≡ bs
    → OnOk r (next ≡ before) → OnOk r (next ≡ out ++ head_text t)
written_head (Ok x) next before out bs t e h k = k ∙ e ∙ ap (λ z. out ++ z) (sym h)
written_head (Err x) next before out bs t e h k = tt

pub compound_head : (t : Term) (name a : List ℕ) (args : List Term) (out middle next : List ℕ) → t ≡ Compound name args → a ≡ name
    → middle ≡ out ++ atom_text a → next ≡ middle ++ 40 ∷ [] → next ≡ out ++ head_text t
compound_head t name a args out middle next e n m k =
    k ∙ ap (λ z. z ++ 40 ∷ []) (m ∙ ap (λ b. out ++ atom_text b) n) ∙ append_assoc out (atom_text name) (40 ∷ [])
    ∙ ap (λ z. out ++ z) (sym (ap head_text e ∙ head_text-Compound name args))

pub writing_starts : (out : List ℕ) (waiting : List Piece) (p : Piece) → waiting ≡ p ∷ []
    → out ++ parts_text (reverse (parts_of waiting)) ≡ out ++ part_text (part_of p)
writing_starts out waiting p e = ap (λ z. out ++ parts_text (reverse (parts_of z))) e ∙ ap (λ z. out ++ z) (append-nil (part_text (part_of p)))

pub writing_ends : (out whole : List ℕ) (waiting : List Piece) → waiting ≡ [] → out ++ parts_text (reverse (parts_of waiting)) ≡ whole → out ≡ whole
writing_ends out whole waiting e k = sym (append-nil out) ∙ ap (λ z. out ++ parts_text (reverse (parts_of z))) (sym e) ∙ k
