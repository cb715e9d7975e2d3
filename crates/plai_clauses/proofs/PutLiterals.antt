-- The literals that are put behind others, and the bound on their arguments.
use Rattle.std.proofs.Common.{◌≡◌, ◌∙◌, ℕ, ◌+◌, ◌<◌, ◌≤◌, Bool, true, false, max, fold, map, suc, Result, Ok, Err, List, [], ◌∷◌, ◌++◌, length, take, drop}
use Rattle.std.proofs.Common.{get_or, append-nil, append_assoc, drop-cons, refl, sym, ap, subst, arith}
use Rattle.std.proofs.lemmas.List.{take_more, take_all, take-append-drop}
use Rattle.std.proofs.lemmas.Grind.{flat_map-append}
use Rattle.std.proofs.lemmas.Bool.{ltb-false}
use Rattle.std.specs.Prelude.{flat_map, nat_lt}
use Rattle.std.specs.List.{AllByRecursion}
use Rattle.plai_theory.proofs.Options.{by_test}
use Rattle.plai_terms.specs.declared.term.Term.{Term, Var, Int, Atom, Compound, out-Term}
use Rattle.plai_terms.specs.declared.term.Term.TheOpen.{Term-F}
use Rattle.plai_clauses.specs.declared.clause.Literal.{Literal}
use Rattle.plai_clauses.specs.declared.cause.ClauseCause.{ClauseCause}
use Rattle.plai_clauses.specs.declared.cause.ClauseCause.TheVariants.{Unsupported, ArityTooLarge}
use Rattle.plai_clauses.specs.declared.cause.ClauseFail.{ClauseFail}
use Rattle.plai_clauses.specs.declared.cause.ClauseFail.TheVariants.{Memory, Refused}
use Rattle.plai_clauses.specs.Builtins.{is_refused_key}
use Rattle.plai_clauses.specs.Bodies.{behind, Puts}
use Rattle.plai_clauses.specs.ClauseOf.{goals_of, cause_of_key, unless, target_of, literal_in, literal_of, in_front, body_of, widest}

-- the literals behind others

after : Result (List Literal) ClauseCause → Result (List Literal) ClauseCause → Result (List Literal) ClauseCause
after (Err c) r = Err c
after (Ok ls) r = behind ls r

chain : (before mid later : List Literal) (a b : Result (List Literal) ClauseCause) → behind before a ≡ Ok mid → behind mid b ≡ Ok later
    → behind before (after a b) ≡ Ok later
unfolding after
chain before mid later (Err c) b e f = cc
chain before mid later (Ok ls) (Err c) e f = cc
chain before mid later (Ok ls) (Ok ks) e f =
    let m : before ++ ls ≡ mid = cc in
    ap Ok (sym (append_assoc before ls ks)) ∙ ap (λ xs. Ok (xs ++ ks)) m ∙ f

stop : (before mid : List Literal) (c : ClauseCause) (a r : Result (List Literal) ClauseCause) → behind before a ≡ Ok mid → after a (after (Err c) r) ≡ Err c
unfolding after
stop before mid c (Err d) r e = cc
stop before mid c (Ok ls) r e = refl

after-nil : (r : Result (List Literal) ClauseCause) → r ≡ after (Ok []) r
unfolding after
after-nil (Err c) = refl
after-nil (Ok ls) = refl

shift : (l : Result Literal ClauseCause) (a b : Result (List Literal) ClauseCause) → in_front l (after a b) ≡ after (in_front l a) b
unfolding after
shift (Err c) a b = refl
shift (Ok l) (Err c) b = refl
shift (Ok l) (Ok ls) (Err c) = refl
shift (Ok l) (Ok ls) (Ok ks) = refl

-- what a key that is no cause gives: at most 16 arguments
pub unless_ok : {A : Type 0} (refused : Bool) (name : List ℕ) (n : ℕ) (x y : A) → unless (cause_of_key refused name n) x ≡ Ok y → (n ≤ 16) × (x ≡ y)
unless_ok {A} refused name n x y e =
    by_test refused (λ t. absurd (first t))
    (λ t. by_test (nat_lt 16 n) (λ u. absurd (second t u)) (λ u. (ltb-false 16 n u, third t u)))
  where
    first : refused ≡ true → ⊥
    first t = let f : unless (cause_of_key refused name n) x ≡ Err (Unsupported name n) = rw t refl in cc

    second : refused ≡ false → nat_lt 16 n ≡ true → ⊥
    second t u = let f : unless (cause_of_key refused name n) x ≡ Err (ArityTooLarge n) = rw (t, u) refl in cc

    third : refused ≡ false → nat_lt 16 n ≡ false → x ≡ y
    third t u = let f : unless (cause_of_key refused name n) x ≡ Ok x = rw (t, u) refl in cc

-- what each literal has, and those behind it, the literals together have
pub in_front_all : (P : Literal → Type 0) (l : Result Literal ClauseCause) (rest : Result (List Literal) ClauseCause) (body : List Literal)
    → ((k : Literal) → l ≡ Ok k → P k) → ((ks : List Literal) → rest ≡ Ok ks → AllByRecursion P ks) → in_front l rest ≡ Ok body → AllByRecursion P body
in_front_all P (Err c) rest body f g e = cc
in_front_all P (Ok l) (Err c) body f g e = cc
in_front_all P (Ok l) (Ok ls) body f g e =
    let b : l ∷ ls ≡ body = cc in
    subst (λ (ks : List Literal). AllByRecursion P ks) b (f l refl, g ls refl)

module _ (m : List ℕ) (is : List (List ℕ × ℕ × List ℕ)) where
  body_of-append : (xs ys : List Term) → body_of m is (xs ++ ys) ≡ after (body_of m is xs) (body_of m is ys)
  body_of-append [] ys = after-nil (body_of m is ys)
  body_of-append (x ∷ xs) ys = ap (in_front (literal_of m is x)) (body_of-append xs ys) ∙ shift (literal_of m is x) (body_of m is xs) (body_of m is ys)

  goals_more : (args : List Term) (i : ℕ) (part : Term) → i < length args → part ≡ get_or args i part
      → flat_map goals_of (take (i + 1) args) ≡ flat_map goals_of (take i args) ++ goals_of part
  goals_more args i part h e =
      ap (flat_map goals_of) (take_more args i part h) ∙ flat_map-append goals_of (take i args) (get_or args i part ∷ [])
      ∙ ap (λ gs. flat_map goals_of (take i args) ++ gs) (append-nil (goals_of (get_or args i part)) ∙ ap goals_of (sym e))

  pub put_more : (before mid later : List Literal) (args : List Term) (i : ℕ) (part : Term) → i < length args → part ≡ get_or args i part
      → behind before (body_of m is (flat_map goals_of (take i args))) ≡ Ok mid → behind mid (body_of m is (goals_of part)) ≡ Ok later
      → behind before (body_of m is (flat_map goals_of (take (i + 1) args))) ≡ Ok later
  put_more before mid later args i part h e a b =
      ap (λ gs. behind before (body_of m is gs)) (goals_more args i part h e)
      ∙ ap (behind before) (body_of-append (flat_map goals_of (take i args)) (goals_of part))
      ∙ chain before mid later (body_of m is (flat_map goals_of (take i args))) (body_of m is (goals_of part)) a b

  pub put_stops : (before mid : List Literal) (c : ClauseCause) (args : List Term) (i : ℕ) (part : Term) → i < length args → part ≡ get_or args i part
      → behind before (body_of m is (flat_map goals_of (take i args))) ≡ Ok mid → body_of m is (goals_of part) ≡ Err c
      → body_of m is (flat_map goals_of args) ≡ Err c
  put_stops before mid c args i part h e a b =
      let r : Result (List Literal) ClauseCause = body_of m is (flat_map goals_of (drop (suc i) args)) in
      ap (λ ts. body_of m is (flat_map goals_of ts)) (sym (take-append-drop i args))
      ∙ ap (body_of m is) (flat_map-append goals_of (take i args) (drop i args))
      ∙ body_of-append (flat_map goals_of (take i args)) (flat_map goals_of (drop i args))
      ∙ ap (λ ts. after (body_of m is (flat_map goals_of (take i args))) (body_of m is (flat_map goals_of ts)))
      (drop-cons args i part h ∙ ap (λ x. x ∷ drop (suc i) args) (sym e))
      ∙ ap (after (body_of m is (flat_map goals_of (take i args)))) (body_of-append (goals_of part) (flat_map goals_of (drop (suc i) args)))
      ∙ ap (λ x. after (body_of m is (flat_map goals_of (take i args))) (after x r)) b
      ∙ stop before mid c (body_of m is (flat_map goals_of (take i args))) r a

  pub put_fails : (before mid later : List Literal) (fail : ClauseFail) (args : List Term) (i : ℕ) (part t : Term) → i < length args → part ≡ get_or args i part
      → goals_of t ≡ flat_map goals_of args → behind before (body_of m is (flat_map goals_of (take i args))) ≡ Ok mid
      → Puts (body_of m is (goals_of part)) mid later (Err fail) → Puts (body_of m is (goals_of t)) before later (Err fail)
  put_fails before mid later Memory args i part t h e g a b = tt
  put_fails before mid later (Refused c) args i part t h e g a b = ap (body_of m is) g ∙ put_stops before mid c args i part h e a b

  pub put_all : (before mid : List Literal) (args : List Term) (i : ℕ) (t : Term) → length args ≤ i → goals_of t ≡ flat_map goals_of args
      → behind before (body_of m is (flat_map goals_of (take i args))) ≡ Ok mid → behind before (body_of m is (goals_of t)) ≡ Ok mid
  put_all before mid args i t h g a =
      ap (λ gs. behind before (body_of m is gs)) (g ∙ ap (flat_map goals_of) (sym (take_all i args h))) ∙ a

  few_in : (y : Term-F Term) (k : Literal) → literal_in m is y ≡ Ok k → length k.args ≤ 16
  few_in (Term-F.Var v) k e = cc
  few_in (Term-F.Int n) k e = cc
  few_in (Term-F.Atom a) k e =
      let p = unless_ok (is_refused_key a 0) a 0 (record { name = a; args = []; target = target_of m is a 0 }) k e in
      subst (λ (l : Literal). length l.args ≤ 16) p.1 p.0
  few_in (Term-F.Compound name args) k e =
      let p = unless_ok (is_refused_key name (length args)) name (length args)
      (record { name = name; args = args; target = target_of m is name (length args) }) k e in
      subst (λ (l : Literal). length l.args ≤ 16) p.1 p.0

  bounded : (ls : List Literal) (a : ℕ) → a ≤ 16 → AllByRecursion (λ l. length l.args ≤ 16) ls → fold max a (map (λ l. length l.args) ls) ≤ 16
  bounded [] a h all = h
  bounded (l ∷ ls) a h all = let k = all.0 in bounded ls (max a (length l.args)) (omega arith) all.1

  all_few : (goals : List Term) (body : List Literal) → body_of m is goals ≡ Ok body → AllByRecursion (λ k. length k.args ≤ 16) body
  all_few [] body e = let b : [] ≡ body = cc in subst (λ (ks : List Literal). AllByRecursion (λ k. length k.args ≤ 16) ks) b tt
  all_few (goal ∷ goals) body e = in_front_all (λ k. length k.args ≤ 16) (literal_of m is goal) (body_of m is goals) body (few_in (out-Term goal))
      (all_few goals) e

  -- Theorem: no literal of a body has more than 16 arguments.
  pub widest_few : (goals : List Term) (body : List Literal) → behind [] (body_of m is goals) ≡ Ok body → widest body ≤ 16
  widest_few goals body e = bounded body 0 (omega arith) (all_few goals body (alone (body_of m is goals) e))
    where
      alone : (r : Result (List Literal) ClauseCause) → behind [] r ≡ Ok body → r ≡ Ok body
      alone (Err c) f = cc
      alone (Ok ls) f = f
