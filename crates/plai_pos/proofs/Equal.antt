-- The order of values.
use Rattle.std.proofs.Common.{◌≡◌, ℕ, ◌^◌, ◌<◌, Bool, true, false, ◌||◌, List, IsTrue, ◌↔◌, refl, sym, ap, ◌∙◌, subst}
use Rattle.plai_base.specs.Sets.{has}
use Rattle.plai_base.proofs.Sets.{has_kept, kept_has, has-kept, kept_same}
use Rattle.plai_bdd.specs.declared.node.Node.{Node}
use Rattle.plai_bdd.specs.Nodes.{holds, is_model, IsFunction, IsOver}
use Rattle.plai_factors.specs.Product.{together}
use Rattle.plai_pos_laws.specs.Assignments.{IsPositive, join_of}
use Rattle.plai_pos_laws.specs.Groundness.{Leq}
use Rattle.plai_pos_laws.proofs.Laws.{value_of_positive}
use Rattle.plai_pos_laws.proofs.Order.{value_join}
use Rattle.plai_pos.specs.declared.value.Value.{Value}
use Rattle.plai_pos.specs.declared.value.State.{State}
use Rattle.plai_pos.specs.Values.{value_of, models_of, IsDiagram, IsDiagramOf, IsPositiveBelow}
use Rattle.plai_pos.proofs.Alike.{TrueAlike, alike_of, alike_as, diagram_of, positive_of}

pub value_positive : (v : Value) → IsPositive v.arity (models_of v.arity v.diagram)
value_positive v = positive_of v.arity v.diagram v.top

pub value_diagram : (v : Value) → IsDiagram v.arity v.diagram
value_diagram v = record { canonical = v.canonical; over = v.over; top = v.top }

pub state_positive : (s : State) → IsPositiveBelow s.variables (together s.factors.items)
state_positive s = record { over = s.over; top = s.top }

pub is_value : (v : Value) (n : ℕ) → v.arity ≡ n → Leq n (value_of v) (value_of v)
is_value v n e = subst (λ k. Leq k (value_of v) (value_of v)) e (value_of_positive (value_positive v))

-- one function implies another where its models are among the other's
pub within_value : (a b : Value) (result : Bool) → a.arity ≡ b.arity
    → ((bound : ℕ) → IsOver bound a.diagram → IsOver bound b.diagram
    → (IsTrue result ↔ ((mask : ℕ) → mask < 2 ^ bound → IsTrue (is_model a.diagram mask) → IsTrue (is_model b.diagram mask))))
    → IsTrue result ↔ Leq a.arity (value_of a) (value_of b)
within_value a b result same d =
    let p = is_value a a.arity refl in
    let q = is_value b a.arity (sym same) in
    let e = d a.arity a.over (subst (λ k. IsOver k b.diagram) (sym same) b.over) in (
      λ yes. record {
        first_is = p.first_is;
        second_is = q.second_is;
        order = record {
          first = p.order.first;
          second = q.order.second;
          within = λ m h.
              let r = has_kept (2 ^ a.arity) (is_model a.diagram) m h in
              subst (λ k. has (models_of k b.diagram) m ≡ true) same (kept_has (2 ^ a.arity) (is_model b.diagram) m r.0 (e.0 yes m r.0 r.1));
        };
      },
      λ le. e.1 (λ m l t.
          (has_kept (2 ^ b.arity) (is_model b.diagram) m (le.order.within m (kept_has (2 ^ a.arity) (is_model a.diagram) m l t))).1),
    )

or_right_alike : (n : ℕ) (a b : List Node) → TrueAlike n (holds a) → TrueAlike n (holds b) → TrueAlike n (λ at. holds a at || holds b at)
or_right_alike n a b p q at other same = by (holds a at) (holds b at) refl refl
  where
    left : (x y : Bool) → x ≡ true → (x || y) ≡ true
    left true y e = refl
    left false y e = ap (λ b. b || y) e

    right : (x y : Bool) → y ≡ true → (x || y) ≡ true
    right true y e = refl
    right false y e = e

    by : (x y : Bool) → holds a at ≡ x → holds b at ≡ y → IsTrue (holds a at || holds b at) → IsTrue (holds a other || holds b other)
    by true y e f t = left (holds a other) (holds b other) (p at other same e)
    by false true e f t = right (holds a other) (holds b other) (q at other same f)
    by false false e f t = absurd (no (sym (λ i. e i || f i) ∙ t))
      where
        no : ◌≡◌ {A = Bool} (false || false) true → ⊥
        no g = cc

pub joined : (a b : Value) (nodes : List Node) → a.arity ≡ b.arity → IsFunction nodes (λ at. holds a.diagram at || holds b.diagram at)
    → IsDiagramOf a.arity (join_of a.arity (models_of a.arity a.diagram) (models_of b.arity b.diagram)) nodes
joined a b nodes same h =
    let over : IsOver a.arity b.diagram = subst (λ k. IsOver k b.diagram) (sym same) b.over in
    diagram_of a.arity _ nodes h.canonical
    (alike_as a.arity nodes _ h (or_right_alike a.arity a.diagram b.diagram (alike_of a.arity a.diagram a.canonical a.over)
    (alike_of a.arity b.diagram b.canonical over)))
    (kept_same (2 ^ a.arity) (is_model nodes) (λ m. has (models_of a.arity a.diagram) m || has (models_of b.arity b.diagram) m)
    (λ m l. h.answers _ ∙ (λ i. sym (has-kept (2 ^ a.arity) (is_model a.diagram) m l) i
    || sym (has-kept (2 ^ b.arity) (is_model b.diagram) m (subst (λ k. m < 2 ^ k) same l)) i)))
    (value_join a.arity _ _ (value_positive a) (subst (λ k. IsPositive k (models_of b.arity b.diagram)) (sym same) (value_positive b)))
