-- What the loop of unification keeps, and its measure.
use Rattle.std.proofs.Common.{◌≡◌, ◌⊎◌, inl, inr, ℕ, zero, suc, ◌<◌, true, false, ◌||◌, eqb, nat_eq, List, [], ◌∷◌, ◌++◌, map, reverse, refl, sym, ap, subst}
use Rattle.std.proofs.Common.{◌∙◌, arith}
use Rattle.std.specs.List.{list_any, IsDistinct}
use Rattle.std.proofs.lemmas.Bool.{eqb-true, eq-eqb}
use Rattle.std.proofs.lemmas.List.{map-append, reverse-append}
use Rattle.std.proofs.lemmas.Grind.{reverse_onto}
use Rattle.std.proofs.lemmas.Map.Keys.{IsDistinct-push, IsDistinct-from_apart}
use Rattle.std.proofs.lemmas.Cmp.{nat_eq_equiv}
use Rattle.plai_terms.specs.Term.{occurs}
use Rattle.plai_terms.specs.Subst.{apply_of, composed}
use Rattle.plai_terms.specs.declared.term.Term.{Term}
use Rattle.plai_terms.specs.Unification.{Equations, Bindings, equations, move_of, Go, Stop, put, moved, going_on, solve, Solves, UnifiesTo}
use Rattle.plai_terms.proofs.Solutions.{occurs_there}
use Rattle.plai_terms.specs.Progress.{IsProgress}
use Rattle.plai_terms.specs.declared.moves.Move.{Move}
use Rattle.plai_terms.specs.declared.moves.Move.TheVariants.{Skip, Bind, Split, Differ, Contain}
use Rattle.plai_terms.specs.declared.outcome.Outcome.{Outcome}
use Rattle.plai_terms.specs.declared.outcome.Outcome.TheVariants.{Unified, Clash, Occurs}
use Rattle.plai_terms.specs.declared.solve.Progress.{Progress}
use Rattle.plai_terms.specs.declared.solve.Progress.TheVariants as progress
use Rattle.plai_terms.proofs.Under.{or_cases, or_first, or_second, decided}
use Rattle.plai_terms.proofs.MoveLaws.{IsMove, move_is}
use Rattle.plai_terms.proofs.Solved.{put_left}
use Rattle.plai_terms.proofs.General.{split_there, put_there, binder_there}
use Rattle.plai_terms.proofs.Total.{Left, More, Over, left_by, left_of, or_over, halts, takes, all_halt}

-- the measure: the steps that are left
enough_by : (n m : ℕ) (x : Left) → ((es : Equations) → halts n es ≡ true → halts m es ≡ true → takes n es ≡ takes m es)
    → or_over true (halts n) x ≡ true → or_over true (halts m) x ≡ true → or_over 0 (λ rest. suc (takes n rest)) x ≡ or_over 0 (λ rest. suc (takes m rest)) x
enough_by n m (More es) below h k = ap suc (below es h k)
enough_by n m Over below h k = refl

enough : (n m : ℕ) (es : Equations) → halts n es ≡ true → halts m es ≡ true → takes n es ≡ takes m es
unfolding halts takes
enough zero m es h k = cc
enough (suc n) zero es h k = cc
enough (suc n) (suc m) es h k = enough_by n m (left_of es) (enough n m) h k

unfoldable pub steps_left : Equations → ℕ
steps_left es = takes (all_halt es).0 es

fewer_by : (n : ℕ) (es fs : Equations) → left_of es ≡ More fs → halts n es ≡ true → steps_left fs < takes n es
unfolding halts takes steps_left
fewer_by zero es fs e h = cc
fewer_by (suc n) es fs e h =
    let k : halts n fs ≡ true = ap (or_over true (halts n)) (sym e) ∙ h in
    let same : takes n fs ≡ takes (all_halt fs).0 fs = enough n (all_halt fs).0 fs k (all_halt fs).1 in
    let more : or_over 0 (λ rest. suc (takes n rest)) (left_of es) ≡ suc (takes n fs) = ap (or_over 0 (λ rest. suc (takes n rest))) e in
    omega arith

pub fewer : (es fs : Equations) → left_of es ≡ More fs → steps_left fs < steps_left es
unfolding steps_left
fewer es fs e = fewer_by (all_halt es).0 es fs e (all_halt es).1

left_after : (m : Move) (es fs : Equations) (bs cs : Bindings) → moved m es bs ≡ Go fs cs → left_by m es ≡ More fs
left_after Skip es fs bs cs e = let s : es ≡ fs = cc in ap More s
left_after (Bind v t) es fs bs cs e = let s : put v t es ≡ fs = cc in ap More s
left_after (Split ds) es fs bs cs e = let s : ds ++ es ≡ fs = cc in ap More s
left_after Differ es fs bs cs e = cc
left_after Contain es fs bs cs e = cc

pub step_fewer : (l r : Term) (es fs : Equations) (bs cs : Bindings) → moved (move_of l r) es bs ≡ Go fs cs → steps_left fs < steps_left ((l, r) ∷ es)
step_fewer l r es fs bs cs e = fewer ((l, r) ∷ es) fs (left_after (move_of l r) es fs bs cs e)

-- a step, seen from the end
pub step_on : (l r : Term) (es fs : Equations) (bs cs : Bindings) (o : Outcome) → moved (move_of l r) es bs ≡ Go fs cs → Solves fs cs o
    → Solves ((l, r) ∷ es) bs o
unfolding solve
step_on l r es fs bs cs o e (n, h) = (suc n, ap (going_on (solve n)) e ∙ h)

pub step_stop : (l r : Term) (es : Equations) (bs : Bindings) (o : Outcome) → moved (move_of l r) es bs ≡ Stop o → Solves ((l, r) ∷ es) bs o
unfolding solve
step_stop l r es bs o e = (1, ap (going_on (solve 0)) e)

pub no_more : (bs : Bindings) → Solves [] bs (Unified bs)
unfolding solve
no_more bs = (1, refl)

-- The bound variables are distinct, and gone from the equations.
abbrev pub keys : Bindings → List ℕ
keys bs = map (λ p. p.0) bs

pub record AreApart (bs : Bindings) (es : Equations) : Type 0 where
  pub distinct : IsDistinct nat_eq (keys bs)
  pub gone : (v : ℕ) → list_any (nat_eq v) (keys bs) ≡ true → occurs_there v es ≡ false

any_append : (v : ℕ) (xs ys : List ℕ) → list_any (nat_eq v) (xs ++ ys) ≡ true → (list_any (nat_eq v) xs ≡ true) ⊎ (list_any (nat_eq v) ys ≡ true)
any_append v [] ys h = inr h
any_append v (x ∷ xs) ys h =
    elim (or_cases (nat_eq v x) (list_any (nat_eq v) (xs ++ ys)) h) [
      | inl k ↦ inl (or_first (nat_eq v x) (list_any (nat_eq v) xs) k)
      | inr k ↦ elim (any_append v xs ys k) [ inl a ↦ inl (or_second (nat_eq v x) (list_any (nat_eq v) xs) a) | inr a ↦ inr a ]
    ]

keys_composed : (bs : Bindings) (v : ℕ) (t : Term) → keys (composed bs ((v, t) ∷ [])) ≡ keys bs ++ v ∷ []
keys_composed [] v t = refl
keys_composed (b ∷ bs) v t = ap (λ ks. b.0 ∷ ks) (keys_composed bs v t)

still_gone : (v : ℕ) (es fs : Equations) → (occurs_there v fs ≡ true → occurs_there v es ≡ true) → occurs_there v es ≡ false → occurs_there v fs ≡ false
still_gone v es fs h e = elim (decided (occurs_there v fs)) [ inl k ↦ let t : occurs_there v es ≡ true = h k in cc | inr k ↦ k ]

bound_gone : (v : ℕ) (t : Term) (es : Equations) → occurs v t ≡ false → occurs_there v (put v t es) ≡ false
bound_gone v t es h =
    elim (decided (occurs_there v (put v t es))) [
      | inl k ↦
          elim (put_left v t v es k) [
            | inl a ↦ cc
            | inr a ↦ let same : eqb v v ≡ true = eq-eqb v v refl in let apart : eqb v v ≡ false = a.1 in cc
          ]
      | inr k ↦ k
    ]

apart_by : (m : Move) (x : Term × Term) (es fs : Equations) (bs cs : Bindings) → IsMove x.0 x.1 m → moved m es bs ≡ Go fs cs → AreApart bs (x ∷ es)
    → AreApart cs fs
apart_by Skip x es fs bs cs h e a =
    let s : es ≡ fs = cc in
    let r : bs ≡ cs = cc in
    subst (λ gs. AreApart cs gs) s
    (subst (λ ds. AreApart ds es) r
    (record { distinct = a.distinct; gone = λ v k. still_gone v (x ∷ es) es (or_second (occurs v x.0 || occurs v x.1) (occurs_there v es)) (a.gone v k) }))
apart_by (Bind v t) x es fs bs cs h e a =
    let s : put v t es ≡ fs = cc in
    let r : composed bs ((v, t) ∷ []) ≡ cs = cc in
    let fresh : list_any (nat_eq v) (keys bs) ≡ false =
    elim (decided (list_any (nat_eq v) (keys bs))) [
      | inl k ↦ let no : occurs_there v (x ∷ es) ≡ false = a.gone v k in let yes : occurs_there v (x ∷ es) ≡ true = binder_there x v t es h.1 in cc
      | inr k ↦ k
    ] in
    subst (λ gs. AreApart cs gs) s
    (subst (λ ds. AreApart ds (put v t es)) r
    (record {
      distinct = subst (λ ks. IsDistinct nat_eq ks) (sym (keys_composed bs v t)) (IsDistinct-push nat_eq_equiv (keys bs) v a.distinct fresh);
      gone = λ u k.
          elim (any_append u (keys bs) (v ∷ []) (ap (list_any (nat_eq u)) (sym (keys_composed bs v t)) ∙ k)) [
            | inl p ↦ still_gone u (x ∷ es) (put v t es) (put_there x v t es h.1 u) (a.gone u p)
            | inr p ↦
                elim (or_cases (nat_eq u v) false p) [
                  | inl q ↦ ap (λ w. occurs_there w (put v t es)) (eqb-true u v q) ∙ bound_gone v t es h.0
                  | inr q ↦ cc
                ]
          ];
    }))
apart_by (Split ds) x es fs bs cs h e a =
    let s : ds ++ es ≡ fs = cc in
    let r : bs ≡ cs = cc in
    subst (λ gs. AreApart cs gs) s
    (subst (λ bs. AreApart bs (ds ++ es)) r
    (record { distinct = a.distinct; gone = λ v k. still_gone v (x ∷ es) (ds ++ es) (split_there x ds es h v) (a.gone v k) }))
apart_by Differ x es fs bs cs h e a = cc
apart_by Contain x es fs bs cs h e a = cc

pub step_apart : (l r : Term) (es fs : Equations) (bs cs : Bindings) → moved (move_of l r) es bs ≡ Go fs cs → AreApart bs ((l, r) ∷ es) → AreApart cs fs
step_apart l r es fs bs cs e a = apart_by (move_of l r) (l, r) es fs bs cs (move_is l r) e a

-- equations that stand behind, the first last
pub reverse_more : {A : Type 0} (xs : List A) (x : A) → reverse (xs ++ x ∷ []) ≡ x ∷ reverse xs
reverse_more xs x = reverse-append xs (x ∷ [])

map_reverse : {A B : Type 0} (f : A → B) (xs : List A) → map f (reverse xs) ≡ reverse (map f xs)
map_reverse f [] = refl
map_reverse f (x ∷ xs) =
    ap (map f) (reverse_onto xs x []) ∙ map-append f (reverse xs) (x ∷ []) ∙ ap (λ ys. ys ++ f x ∷ []) (map_reverse f xs)
    ∙ sym (reverse_onto (map f xs) (f x) [])

pub bind_done : (m : Move) (v : ℕ) (t : Term) (s : Bindings) (waiting changed : Equations) (bs earlier pushed : Bindings) → m ≡ Bind v t → s ≡ (v, t) ∷ []
    → changed ≡ map (λ e. (apply_of s e.0, apply_of s e.1)) waiting → earlier ≡ map (λ p. (p.0, apply_of s p.1)) bs → pushed ≡ earlier ++ (v, t) ∷ []
    → moved m (reverse waiting) bs ≡ Go (reverse changed) pushed
bind_done m v t s waiting changed bs earlier pushed em es ec ee ep =
    let P : Bindings → Equations = λ s. map (λ e. (apply_of s e.0, apply_of s e.1)) waiting in
    let Q : Bindings → Bindings = λ s. map (λ p. (p.0, apply_of s p.1)) bs in
    let first : put v t (reverse waiting) ≡ reverse changed =
    map_reverse (λ e. (apply_of ((v, t) ∷ []) e.0, apply_of ((v, t) ∷ []) e.1)) waiting ∙ sym (ap reverse (ec ∙ ap P es)) in
    let second : composed bs ((v, t) ∷ []) ≡ pushed = sym (ep ∙ ap (λ ys. ys ++ (v, t) ∷ []) (ee ∙ ap Q es)) in
    ap (λ m. moved m (reverse waiting) bs) em ∙ (λ i. Go (first i) (second i))

pub progress_done : (l r : Term) (p : Progress) (es fs : Equations) (bs cs : Bindings) → IsProgress (move_of l r) p es bs fs cs → p ≡ progress.Done
    → moved (move_of l r) es bs ≡ Go fs cs
progress_done l r progress.Done es fs bs cs h e = h
progress_done l r progress.Clash es fs bs cs h e = cc
progress_done l r progress.Occurs es fs bs cs h e = cc

pub progress_clash : (l r : Term) (p : Progress) (es fs : Equations) (bs cs : Bindings) → IsProgress (move_of l r) p es bs fs cs → p ≡ progress.Clash
    → moved (move_of l r) es bs ≡ Stop Clash
progress_clash l r progress.Done es fs bs cs h e = cc
progress_clash l r progress.Clash es fs bs cs h e = h
progress_clash l r progress.Occurs es fs bs cs h e = cc

pub progress_occurs : (l r : Term) (p : Progress) (es fs : Equations) (bs cs : Bindings) → IsProgress (move_of l r) p es bs fs cs → p ≡ progress.Occurs
    → moved (move_of l r) es bs ≡ Stop Occurs
progress_occurs l r progress.Done es fs bs cs h e = cc
progress_occurs l r progress.Clash es fs bs cs h e = cc
progress_occurs l r progress.Occurs es fs bs cs h e = h

-- The loop's state: the equations that wait, the first last, and the bindings.
pub record IsUnderWay (xs ys : List Term) (waiting : Equations) (bs : Bindings) : Type 0 where
  pub same : (o : Outcome) → Solves (reverse waiting) bs o → UnifiesTo xs ys o
  pub apart : AreApart bs (reverse waiting)

pub start_under_way : (xs ys : List Term) (parts waiting : Equations) (bs : Bindings) → parts ≡ equations xs ys → reverse waiting ≡ parts → bs ≡ []
    → IsUnderWay xs ys waiting bs
start_under_way xs ys parts waiting bs e h n =
    let is : reverse waiting ≡ equations xs ys = h ∙ e in
    record {
      same = λ o s. subst (λ bs. Solves (equations xs ys) bs o) n (subst (λ es. Solves es bs o) is s);
      apart = subst (λ bs. AreApart bs (reverse waiting)) (sym n)
          (record { distinct = IsDistinct-from_apart nat_eq [] (λ i j d h k. absurd (omega arith)); gone = λ v k. cc });
    }

module _ (xs ys : List Term) (waiting rest : Equations) (pair : Term × Term) (bs : Bindings) (popped : waiting ≡ rest ++ pair ∷ []) where
  first_is : reverse waiting ≡ (pair.0, pair.1) ∷ reverse rest
  first_is = ap reverse popped ∙ reverse_more rest pair

  pub next_under_way : (later : Equations) (cs : Bindings) → IsUnderWay xs ys waiting bs
      → moved (move_of pair.0 pair.1) (reverse rest) bs ≡ Go (reverse later) cs → IsUnderWay xs ys later cs
  next_under_way later cs way e =
      record {
        same = λ o s. way.same o (subst (λ es. Solves es bs o) (sym first_is) (step_on pair.0 pair.1 (reverse rest) (reverse later) bs cs o e s));
        apart = step_apart pair.0 pair.1 (reverse rest) (reverse later) bs cs e (subst (AreApart bs) first_is way.apart);
      }

  pub next_fewer : (later : Equations) (cs : Bindings) → moved (move_of pair.0 pair.1) (reverse rest) bs ≡ Go (reverse later) cs
      → steps_left (reverse later) < steps_left (reverse waiting)
  next_fewer later cs e = subst (λ es. steps_left (reverse later) < steps_left es) (sym first_is)
      (step_fewer pair.0 pair.1 (reverse rest) (reverse later) bs cs e)

  pub stop_under_way : (o : Outcome) → IsUnderWay xs ys waiting bs → moved (move_of pair.0 pair.1) (reverse rest) bs ≡ Stop o → UnifiesTo xs ys o
  stop_under_way o way e = way.same o (subst (λ es. Solves es bs o) (sym first_is) (step_stop pair.0 pair.1 (reverse rest) bs o e))

pub end_under_way : (xs ys : List Term) (waiting : Equations) (bs : Bindings) → waiting ≡ [] → IsUnderWay xs ys waiting bs → UnifiesTo xs ys (Unified bs)
end_under_way xs ys waiting bs e way = way.same (Unified bs) (subst (λ es. Solves es bs (Unified bs)) (sym (ap reverse e)) (no_more bs))
