-- How functions are added to a table: leaves, places that are there, and joins.
use Rattle.std.proofs.Common.{◌≡◌, ◌≢◌, ℕ, ◌+◌, ◌<◌, ◌≤◌, Bool, true, false, cond, nat_eq, List, length, refl, sym, ap, subst, ◌∙◌, arith}
use Rattle.std.proofs.lemmas.Bool.Decides.{nat_tests}
use Rattle.plai_bdd.specs.Assignment.{Assignment}
use Rattle.plai_bdd.specs.declared.node.Node.{Node}
use Rattle.plai_bdd.specs.declared.node.Node.TheVariants.{Leaf, Branch}
use Rattle.plai_bdd.specs.Tree.{Tip, Fork, value, IsReduced}
use Rattle.plai_bdd.specs.Nodes.{place_of, put, tree_at, build}
use Rattle.plai_bdd.specs.Table.{HasChildrenBelow, IsTable, IsGrown, Answers, Adds, joined_place, joined_table}
use Rattle.plai_bdd.proofs.Trees.{IsReduced-lower}
use Rattle.plai_bdd.proofs.Lists.{puts}
use Rattle.plai_bdd.proofs.Tables.{IsGrown-same, IsGrown-then, put_grown, put_table, put_tree}
use Rattle.plai_bdd.proofs.Builds.{build-tip, build-fork_by, build_there, same_place}

-- what a place answers stays as the table grows
pub Answers-grown : {t u : List Node} {k least : ℕ} {f : Assignment → Bool} → IsGrown t u → Answers t k least f → Answers u k least f
Answers-grown {t} {u} {k} {least} {f} g a =
    let e : tree_at u k ≡ tree_at t k = g.trees k a.inside in
    record {
      inside = omega (arith, a.inside, g.longer);
      reduced = subst (IsReduced least) (sym e) a.reduced;
      answers = λ at. ap (λ x. value x at) e ∙ a.answers at;
    }

pub Answers-as : {t : List Node} {k least low : ℕ} {f g : Assignment → Bool} → low ≤ least → ((at : Assignment) → f at ≡ g at) → Answers t k least f
    → Answers t k low g
Answers-as {t} {k} {least} {low} h same a = record {
  inside = a.inside;
  reduced = IsReduced-lower (tree_at t k) least low h a.reduced;
  answers = λ at. a.answers at ∙ same at;
}

pub Adds-as : {t u : List Node} {k least low : ℕ} {f g : Assignment → Bool} → low ≤ least → ((at : Assignment) → f at ≡ g at) → Adds t k u least f
    → Adds t k u low g
Adds-as h same a = record { table = a.table; grown = a.grown; built = a.built; known = Answers-as h same a.known }

-- a place that is there
pub Adds-there : {t : List Node} {k least : ℕ} {f : Assignment → Bool} → IsTable t → Answers t k least f → Adds t k t least f
Adds-there {t} {k} ok a = record {
  table = ok;
  grown = IsGrown-same t;
  built = build_there (tree_at t k) t ok k a.inside refl;
  known = a;
}

-- a leaf
pub Adds-leaf : (b : Bool) (t : List Node) (least : ℕ) → IsTable t → Adds t (place_of (Leaf b) t) (put (Leaf b) t) least (λ _. b)
Adds-leaf b t least ok =
    let table = put_table t (Leaf b) ok tt in
    let here : tree_at (put (Leaf b) t) (place_of (Leaf b) t) ≡ Tip b = put_tree t (Leaf b) table in
    record {
      table = table;
      grown = put_grown t (Leaf b);
      built = ap (λ x. build x t) here ∙ build-tip b t;
      known = record {
        inside = (puts (Leaf b) t).inside;
        reduced = subst (IsReduced least) (sym here) tt;
        answers = λ at. ap (λ x. value x at) here;
      };
    }

module _ {t u v : List Node} {i j slot : ℕ} {f g h : Assignment → Bool}
    (low : Adds t i u (slot + 1) f) (high : Adds u j v (slot + 1) g) (below : slot < 64)
    (joins : (at : Assignment) → h at ≡ cond (at slot) (g at) (f at)) where
  low_stays : tree_at v i ≡ tree_at u i
  low_stays = high.grown.trees i low.known.inside

  -- where the two places are one, nothing is added for the second, and the slot does not matter
  join_same : i ≡ j → Adds t i v slot h
  join_same e =
      let same : tree_at v j ≡ tree_at u i = ap (tree_at v) (sym e) ∙ low_stays in
      let there = build_there (tree_at u i) u low.table i low.known.inside refl in
      let stays : v ≡ u = ap (λ (p : ℕ × List Node). p.1) (sym high.built ∙ ap (λ x. build x u) same ∙ there) in
      let one : (at : Assignment) → g at ≡ f at = λ at. sym (high.known.answers at) ∙ ap (λ x. value x at) same ∙ low.known.answers at in
      let all : (at : Assignment) → f at ≡ h at = λ at. sym (either (at slot) (g at) (f at) (one at)) ∙ sym (joins at) in
      subst (λ w. Adds t i w slot h) (sym stays) (Adds-as (omega arith) all low)
    where
      either : (b x y : Bool) → x ≡ y → cond b x y ≡ y
      either true x y e = e
      either false x y e = refl

  join_fork : (i ≢ j) → Adds t (place_of (Branch slot i j) v) (put (Branch slot i j) v) slot h
  join_fork ne =
      let node : Node = Branch slot i j in
      let within : HasChildrenBelow (length v) node = (omega (arith, low.known.inside, high.grown.longer), high.known.inside) in
      let ok = put_table v node high.table within in
      let last = put_grown v node in
      let lows = last.trees i within.0 ∙ low_stays in
      let highs = last.trees j within.1 in
      let here : tree_at (put node v) (place_of node v) ≡ Fork slot (tree_at u i) (tree_at v j) = put_tree v node ok ∙ (λ x. Fork slot (lows x) (highs x)) in
      let apart : tree_at u i ≢ tree_at v j = λ e. ne (same_place v high.table i j within.0 within.1 (low_stays ∙ e)) in
      record {
        table = ok;
        grown = IsGrown-then low.grown (IsGrown-then high.grown last);
        built = ap (λ x. build x t) here ∙ build-fork_by slot (tree_at u i) (tree_at v j) t i j u v low.built high.built;
        known = record {
          inside = (puts node v).inside;
          reduced = subst (IsReduced slot) (sym here) (omega arith, below, apart, low.known.reduced, high.known.reduced);
          answers = λ at. ap (λ x. value x at) here ∙ (λ x. cond (at slot) (high.known.answers at x) (low.known.answers at x)) ∙ sym (joins at);
        };
      }

  pub Adds-join : Adds t (joined_place slot i j v) (joined_table slot i j v) slot h
  Adds-join = by (nat_eq i j) refl
    where
      by : (b : Bool) → nat_eq i j ≡ b → Adds t (joined_place slot i j v) (joined_table slot i j v) slot h
      by true e =
          let P : Bool → Type 0 = λ b. Adds t (cond b i (place_of (Branch slot i j) v)) (cond b v (put (Branch slot i j) v)) slot h in
          subst P (sym e) (join_same (grind (arith, nat_tests)))
      by false e =
          let P : Bool → Type 0 = λ b. Adds t (cond b i (place_of (Branch slot i j) v)) (cond b v (put (Branch slot i j) v)) slot h in
          subst P (sym e) (join_fork (λ same. grind (arith, nat_tests)))
