-- The order of lists of cut skeletons, and that each operation is monotone.
use Rattle.std.proofs.Common.{◌≡◌, ℕ, zero, suc, ◌-◌, ◌≤◌, ◌<◌, Bool, true, false, ◌&&◌, cond, List, [], ◌∷◌, map, length, get_or, set, replicate, Option}
use Rattle.std.proofs.Common.{Some, None, refl, sym, ap, ◌∙◌, subst, arith}
use Rattle.std.specs.Option.{option_map, option_and_then}
use Rattle.std.proofs.lemmas.List.{length-map, length-set, length-replicate}
use Rattle.std.proofs.lemmas.Bool.{and_parts}
use Rattle.plai_terms.specs.declared.term.Term.{Term, out-Term, Var}
use Rattle.plai_terms.specs.declared.prop.Prop.{Prop}
use Rattle.plai_terms.specs.declared.prop.Prop.TheVariants as property
use Rattle.plai_terms.specs.Term.{has_variables_below}
use Rattle.plai_terms.specs.declared.skeleton.Skeleton.{Skeleton, out-Skeleton, Any, Integer}
use Rattle.plai_terms.specs.declared.skeleton.Skeleton.TheOpen.{Skeleton-F}
use Rattle.plai_domain.specs.declared.action.Action.{Action}
use Rattle.plai_domain.specs.declared.action.Action.TheVariants as action
use Rattle.plai_domain.specs.Instances.{argument, all_below, acts_within}
use Rattle.plai_depth_laws.specs.Skeletons.{cut, meet}
use Rattle.plai_depth_laws.specs.Moves.{pull, push, push_all}
use Rattle.plai_depth_laws.specs.Operations.{is_any_layer, is_any, describe_of, pulled, join_of, enter_of, unify_of, is_variable_layer, if_free, refine_of}
use Rattle.plai_depth_laws.specs.Order.{IsUnder, AreUnder}
use Rattle.plai_depth_laws.specs.DepthK.{AreCut, LeqCut}
use Rattle.plai_depth_laws.proofs.Order.{refl_all, length-AreUnder, IsUnder-trans, AreUnder-trans, AreUnder-antisym, over_any}
use Rattle.plai_depth_laws.proofs.Cuts.{cuts_keep, cuts_twice}
use Rattle.plai_depth_laws.proofs.Joins.{join_above_first, join_above_second, joins_least}
use Rattle.plai_depth_laws.proofs.JoinsCut.{cut-Any, cut-Integer, joins_cut}
use Rattle.plai_depth_laws.proofs.Meets.{meet_greatest, meet_below}
use Rattle.plai_depth_laws.proofs.Moves.{pull_keeps, pulls_keep, pushes_lower, pushes_greatest, then_some, mapped_some}
use Rattle.plai_depth_laws.proofs.Closed.{pushes_cut}

-- ---- the order

module _ {k n : ℕ} where
  pub LeqCut-trans : {ss ts us : List Skeleton} → LeqCut k n ss ts → LeqCut k n ts us → LeqCut k n ss us
  LeqCut-trans h g = record { first = h.first; second = g.second; under = AreUnder-trans h.under g.under }

  pub LeqCut-antisym : {ss ts : List Skeleton} → LeqCut k n ss ts → LeqCut k n ts ss → ss ≡ ts
  LeqCut-antisym h g = AreUnder-antisym h.under g.under

  pub LeqCut-refl : {ss : List Skeleton} → AreCut k n ss → LeqCut k n ss ss
  LeqCut-refl {ss} c = record { first = c; second = c; under = refl_all ss }

-- ---- join

join_args_above_first : (ss ts : List Skeleton) → length ss ≡ length ts → AreUnder ss (join_of ss ts)
join_args_above_first [] ts e = AreUnder.none
join_args_above_first (s ∷ ss) [] e = absurd cc
join_args_above_first (s ∷ ss) (t ∷ ts) e = let l : length ss ≡ length ts = cc in AreUnder.more (join_above_first s t) (join_args_above_first ss ts l)

join_args_above_second : (ss ts : List Skeleton) → length ss ≡ length ts → AreUnder ts (join_of ss ts)
join_args_above_second [] [] e = AreUnder.none
join_args_above_second [] (t ∷ ts) e = absurd cc
join_args_above_second (s ∷ ss) [] e = absurd cc
join_args_above_second (s ∷ ss) (t ∷ ts) e = let l : length ss ≡ length ts = cc in AreUnder.more (join_above_second s t) (join_args_above_second ss ts l)

module _ {k n : ℕ} {ss ts : List Skeleton} where
  pub value_join : AreCut k n ss → AreCut k n ts → AreCut k n (join_of ss ts)
  value_join c d = record {
    count = sym (length-AreUnder (join_args_above_first ss ts (c.count ∙ sym d.count))) ∙ c.count;
    cut = joins_cut k ss ts c.cut d.cut;
  }

  pub join_first : AreCut k n ss → AreCut k n ts → LeqCut k n ss (join_of ss ts)
  join_first c d = record { first = c; second = value_join c d; under = join_args_above_first ss ts (c.count ∙ sym d.count) }

  pub join_second : AreCut k n ss → AreCut k n ts → LeqCut k n ts (join_of ss ts)
  join_second c d = record { first = d; second = value_join c d; under = join_args_above_second ss ts (c.count ∙ sym d.count) }

  pub join_of_least : {us : List Skeleton} → LeqCut k n ss us → LeqCut k n ts us → LeqCut k n (join_of ss ts) us
  join_of_least h g = record { first = value_join h.first g.first; second = h.second; under = joins_least h.under g.under }

-- ---- pulls

module _ (k : ℕ) (args : List Term) where
  pub value_pulled : (ss : List Skeleton) → AreCut k (length args) (pulled k args ss)
  value_pulled ss = record {
    count = length-map (map (pull ss) args) (cut k) ∙ length-map args (pull ss);
    cut = cuts_twice k (map (pull ss) args);
  }

  pub pulled_order : {ss ts : List Skeleton} → AreUnder ss ts → LeqCut k (length args) (pulled k args ss) (pulled k args ts)
  pulled_order {ss} {ts} p = record { first = value_pulled ss; second = value_pulled ts; under = cuts_keep k (pulls_keep ss ts p args) }

-- ---- pushes

-- where the first gives skeletons, the second gives larger ones
abbrev pub Grows : ℕ → ℕ → Option (List Skeleton) → Option (List Skeleton) → Type 0
Grows k n o p = (ss : List Skeleton) → o ≡ Some ss → (ts : List Skeleton) × (p ≡ Some ts) × LeqCut k n ss ts

module _ (k limit : ℕ) (terms : List Term) (below : all_below limit terms ≡ true) where
  pub value_pushed : {xs ss ss' : List Skeleton} → AreCut k (length terms) xs → AreCut k limit ss → push_all terms xs ss ≡ Some ss' → AreCut k limit ss'
  value_pushed {xs} {ss} {ss'} c d e = record {
    count = length-AreUnder (pushes_lower limit terms below xs (sym c.count) ss ss' d.count e).0 ∙ d.count;
    cut = pushes_cut k limit terms below xs (sym c.count) ss ss' d.count c.cut d.cut e;
  }

  pub push_order : {xs ys ss ts : List Skeleton} → LeqCut k (length terms) xs ys → LeqCut k limit ss ts
      → Grows k limit (push_all terms xs ss) (push_all terms ys ts)
  push_order {xs} {ys} {ss} {ts} h g ss' e =
      let (under, fit) = pushes_lower limit terms below xs (sym h.first.count) ss ss' g.first.count e in
      let (ts', f, up) = pushes_greatest ss' terms ys ts (AreUnder-trans under g.under) (AreUnder-trans fit h.under) in
      (ts', f, record { first = value_pushed h.first g.first e; second = value_pushed h.second g.second f; under = up })

any_cut : (k n : ℕ) → map (cut k) (replicate n Any) ≡ replicate n Any
any_cut k zero = refl
any_cut k (suc n) = let a = cut-Any k in let b = any_cut k n in λ i. a i ∷ b i

pub value_any : (k n : ℕ) → AreCut k n (replicate n Any)
value_any k n = record { count = length-replicate n Any; cut = any_cut k n }

pub enter_order : (k v : ℕ) (head : List Term) → all_below v head ≡ true → {xs ys : List Skeleton} → LeqCut k (length head) xs ys
    → Grows k v (enter_of head v xs) (enter_of head v ys)
enter_order k v head below h = push_order k v head below h (LeqCut-refl (value_any k v))

-- ---- actions

pub argument_below : (limit : ℕ) (args : List Term) (i : ℕ) → all_below limit args ≡ true → i < length args
    → has_variables_below limit (get_or args i (Var 0)) ≡ true
argument_below limit [] i w l = absurd (omega (arith, l))
argument_below limit (t ∷ ts) zero w l = (and_parts (has_variables_below limit t) (all_below limit ts) w).0
argument_below limit (t ∷ ts) (suc i) w l = argument_below limit ts i (and_parts (has_variables_below limit t) (all_below limit ts) w).1 (omega (arith, l))

pub one_below : (limit : ℕ) (t : Term) → has_variables_below limit t ≡ true → all_below limit (t ∷ []) ≡ true
one_below limit t e = ap (λ b. b && true) e

pub two_below : (limit : ℕ) (t u : Term) → has_variables_below limit t ≡ true → has_variables_below limit u ≡ true → all_below limit (t ∷ u ∷ []) ≡ true
two_below limit t u e f = ap (λ b. b && all_below limit (u ∷ [])) e ∙ one_below limit u f

pub one_push : (t : Term) (a : Skeleton) (ss : List Skeleton) → push_all (t ∷ []) (a ∷ []) ss ≡ push t ss a
one_push t a ss = itself (push t ss a)
  where
    itself : (o : Option (List Skeleton)) → option_and_then (λ ss. Some ss) o ≡ o
    itself None = refl
    itself (Some ss) = refl

pub first_of : {s s' : Skeleton} {ss ss' : List Skeleton} → AreUnder (s ∷ ss) (s' ∷ ss') → IsUnder s s'
first_of (AreUnder.more p ps) = p

pub rest_of : {s s' : Skeleton} {ss ss' : List Skeleton} → AreUnder (s ∷ ss) (s' ∷ ss') → AreUnder ss ss'
rest_of (AreUnder.more p ps) = ps

-- The meet of the pulls, the skeletons into which it was pushed, and these cut.
pub record Unified (k : ℕ) (t u : Term) (ss r : List Skeleton) : Type 0 where
  pub met : Skeleton
  pub met_is : meet (pull ss t) (pull ss u) ≡ Some met
  pub pushed : List Skeleton
  pub pushed_is : push_all (t ∷ u ∷ []) (met ∷ met ∷ []) ss ≡ Some pushed
  pub is : r ≡ map (cut k) pushed

pub unified_parts : (k : ℕ) (t u : Term) (ss r : List Skeleton) → unify_of k t u ss ≡ Some r → Unified k t u ss r
unified_parts k t u ss r e =
    let (m, f, g) = then_some (λ m. option_map (map (cut k)) (push_all (t ∷ u ∷ []) (m ∷ m ∷ []) ss)) (meet (pull ss t) (pull ss u)) r e in
    let (p, h, is) = mapped_some (map (cut k)) (push_all (t ∷ u ∷ []) (m ∷ m ∷ []) ss) r g in
    record { met = m; met_is = f; pushed = p; pushed_is = h; is = is }

pub unified_of : (k : ℕ) (t u : Term) (ss : List Skeleton) (m : Skeleton) (p : List Skeleton) → meet (pull ss t) (pull ss u) ≡ Some m
    → push_all (t ∷ u ∷ []) (m ∷ m ∷ []) ss ≡ Some p
    → unify_of k t u ss ≡ Some (map (cut k) p)
unified_of k t u ss m p e f =
    ap (option_and_then (λ m. option_map (map (cut k)) (push_all (t ∷ u ∷ []) (m ∷ m ∷ []) ss))) e ∙ ap (option_map (map (cut k))) f

-- Skeletons below, under which both terms lie below both pulls, lie below what the action leaves.
pub unify_greatest : (k : ℕ) (t u : Term) (rs ss : List Skeleton) → AreUnder rs ss → (m : Skeleton) → IsUnder m (pull ss t) → IsUnder m (pull ss u)
    → IsUnder (pull rs t) m → IsUnder (pull rs u) m
    → (r : List Skeleton) × (p : List Skeleton) × (unify_of k t u ss ≡ Some r) × (r ≡ map (cut k) p) × AreUnder rs p
unify_greatest k t u rs ss h m a b c d =
    let (met, e, up) = meet_greatest a b in
    let (p, f, g) = pushes_greatest rs (t ∷ u ∷ []) (met ∷ met ∷ []) ss h
    (AreUnder.more (IsUnder-trans c up) (AreUnder.more (IsUnder-trans d up) AreUnder.none)) in
    (map (cut k) p, p, unified_of k t u ss met p e f, refl, g)

module _ (k limit : ℕ) (t u : Term) (wt : has_variables_below limit t ≡ true) (wu : has_variables_below limit u ≡ true) where
  pub value_unified : (ss r : List Skeleton) → length ss ≡ limit → Unified k t u ss r → AreCut k limit r
  value_unified ss r len x = record {
    count = ap length x.is ∙ length-map x.pushed (cut k)
        ∙ length-AreUnder (pushes_lower limit (t ∷ u ∷ []) (two_below limit t u wt wu) (x.met ∷ x.met ∷ []) refl ss x.pushed len x.pushed_is).0 ∙ len;
    cut = ap (map (cut k)) x.is ∙ cuts_twice k x.pushed ∙ sym x.is;
  }

  pub unify_order : {ss ts : List Skeleton} → LeqCut k limit ss ts → Grows k limit (unify_of k t u ss) (unify_of k t u ts)
  unify_order {ss} {ts} h r e =
      let x = unified_parts k t u ss r e in
      let low = meet_below (pull ss t) (pull ss u) x.met x.met_is in
      let (under, fit) = pushes_lower limit (t ∷ u ∷ []) (two_below limit t u wt wu) (x.met ∷ x.met ∷ []) refl ss x.pushed h.first.count x.pushed_is in
      let (r', p', f, is, up) = unify_greatest k t u x.pushed ts (AreUnder-trans under h.under) x.met
      (IsUnder-trans low.0 (pull_keeps ss ts h.under t)) (IsUnder-trans low.1 (pull_keeps ss ts h.under u)) (first_of fit) (first_of (rest_of fit)) in (
        r',
        f,
        record {
          first = value_unified ss r h.first.count x;
          second = value_unified ts r' h.second.count (unified_parts k t u ts r' f);
          under = subst (λ z. AreUnder z r') (sym x.is) (subst (AreUnder (map (cut k) x.pushed)) (sym is) (cuts_keep k up));
        },
      )

any_layer : (x : Skeleton-F Skeleton) → is_any_layer x ≡ true → x ≡ Skeleton-F.Any
any_layer Skeleton-F.Any e = refl
any_layer _ e = absurd cc

pub free_is : (b : Bool) (ss r : List Skeleton) → cond b (Some ss) None ≡ Some r → (b ≡ true) × (ss ≡ r)
free_is true ss r e = (refl, cc)
free_is false ss r e = absurd cc

pub free_some : (t : Term) (ss : List Skeleton) → is_variable_layer (out-Term t) ≡ true → out-Skeleton (pull ss t) ≡ Skeleton-F.Any → if_free t ss ≡ Some ss
free_some t ss e f = ap (λ b. cond (b && is_any (pull ss t)) (Some ss) None) e ∙ ap (λ y. cond (is_any_layer y) (Some ss) None) f

free_order : (k limit : ℕ) (t : Term) {ss ts : List Skeleton} → LeqCut k limit ss ts → Grows k limit (if_free t ss) (if_free t ts)
free_order k limit t {ss} {ts} h r e =
    let (b, is) = free_is (is_variable_layer (out-Term t) && is_any (pull ss t)) ss r e in
    let (v, a) = and_parts (is_variable_layer (out-Term t)) (is_any (pull ss t)) b in
    (ts, free_some t ts v (over_any (pull_keeps ss ts h.under t) (any_layer (out-Skeleton (pull ss t)) a)), subst (λ z. LeqCut k limit z ts) is h)

unchanged : (k limit : ℕ) {ss ts : List Skeleton} → LeqCut k limit ss ts → Grows k limit (Some ss) (Some ts)
unchanged k limit {ss} {ts} h r e = let is : ss ≡ r = cc in (ts, refl, subst (λ z. LeqCut k limit z ts) is h)

pub value_integer : (k : ℕ) → AreCut (suc k) 1 (Integer ∷ [])
value_integer k = record { count = refl; cut = let a = cut-Integer k in λ i. a i ∷ [] }

module _ (k limit : ℕ) (args : List Term) (below : all_below limit args ≡ true) where
  there : (i : ℕ) → 1 ≤ i → i ≤ length args → has_variables_below limit (argument args i) ≡ true
  there i l m = argument_below limit args (i - 1) below (omega arith)

  integer_order : (i : ℕ) → 1 ≤ i → i ≤ length args → {ss ts : List Skeleton} → LeqCut (suc k) limit ss ts
      → Grows (suc k) limit (push (argument args i) ss Integer) (push (argument args i) ts Integer)
  integer_order i l m {ss} {ts} h r e =
      let t : Term = argument args i in
      let (ts', f, up) = push_order (suc k) limit (t ∷ []) (one_below limit t (there i l m)) (LeqCut-refl (value_integer k)) h r (one_push t Integer ss ∙ e) in
      (ts', sym (one_push t Integer ts) ∙ f, up)

  nothing_grows : {p : Option (List Skeleton)} → Grows (suc k) limit None p
  nothing_grows r e = absurd cc

  pub refine_order : (x : Action) → acts_within (length args) x → {ss ts : List Skeleton} → LeqCut (suc k) limit ss ts
      → Grows (suc k) limit (refine_of (suc k) args x ss) (refine_of (suc k) args x ts)
  refine_order action.Fail w h = nothing_grows
  refine_order (action.Unify i j) w h = unify_order (suc k) limit (argument args i) (argument args j) (there i w.0 w.1) (there j w.2 w.3) h
  refine_order (action.Same i j) w h = unify_order (suc k) limit (argument args i) (argument args j) (there i w.0 w.1) (there j w.2 w.3) h
  refine_order (action.Ground i) w h = unchanged (suc k) limit h
  refine_order (action.BindInt i) w h = integer_order i w.0 w.1 h
  refine_order (action.Var i) w h = free_order (suc k) limit (argument args i) h
  refine_order (action.Nonvar i) w h = unchanged (suc k) limit h
  refine_order (action.Havoc slots) w h = unchanged (suc k) limit h

-- ---- properties

module _ (k n : ℕ) where
  set_cut : (ss : List Skeleton) (i : ℕ) → map (cut (suc k)) ss ≡ ss → map (cut (suc k)) (set ss i Integer) ≡ set ss i Integer
  set_cut [] i e = refl
  set_cut (s ∷ ss) zero e = let f : map (cut (suc k)) ss ≡ ss = cc in let a = cut-Integer k in λ i. a i ∷ f i
  set_cut (s ∷ ss) (suc i) e =
      let a : cut (suc k) s ≡ s = cc in
      let f : map (cut (suc k)) ss ≡ ss = cc in
      let b = set_cut ss i f in
      λ i. a i ∷ b i

  pub value_describe : (pre : List Prop) → AreCut (suc k) n (describe_of n pre)
  value_describe [] = value_any (suc k) n
  value_describe (property.Ground i ∷ pre) = value_describe pre
  value_describe (property.Var i ∷ pre) = value_describe pre
  value_describe (property.Nonvar i ∷ pre) = value_describe pre
  value_describe (property.Int i ∷ pre) =
      let c = value_describe pre in
      record { count = length-set (describe_of n pre) (i - 1) Integer ∙ c.count; cut = set_cut (describe_of n pre) (i - 1) c.cut }
  value_describe (property.Indep i j ∷ pre) = value_describe pre
