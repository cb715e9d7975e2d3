-- Each step keeps the invariant.
use Rattle.std.proofs.Common.{◌≡◌, inl, inr, ℕ, ◌+◌, ◌<◌, ◌≤◌, List, [], ◌∷◌, ◌++◌, map, length, Some, refl, sym, ap, subst, ◌∙◌, arith}
use Rattle.std.proofs.lemmas.List.{length-map, map-append}
use Rattle.plai_theory.specs.Words.{IsIn}
use Rattle.plai_theory.specs.Domain.{IsLawful}
use Rattle.plai_theory.specs.Evaluation.{NameOf, name_of}
use Rattle.plai_theory.specs.LeastTable.{Row}
use Rattle.plai_theory.specs.Tables.{source_of, IsClosed}
use Rattle.plai_theory.proofs.Tables.{lookup_name}
use Rattle.plai_terms.specs.Term.{occurs}
use Rattle.plai_terms.specs.Subst.{bound_to}
use Rattle.plai_terms.specs.declared.term.Term.{Term, Var}
use Rattle.plai_terms.specs.declared.pred_key.PredKey.{PredKey}
use Rattle.plai_terms.specs.Substitution.{under, then_also, raised, IsBelow, AreBelow, IsLocal}
use Rattle.plai_terms.specs.Unification.{Bindings, UnifiesTo}
use Rattle.plai_terms.specs.Unifiers.{IsMostGeneral}
use Rattle.plai_terms.specs.declared.outcome.Outcome.TheVariants.{Unified}
use Rattle.plai_terms.proofs.Under.{under-Var, under_Var, under_Var_all, under_under_all}
use Rattle.plai_terms.proofs.Outcomes.{unifier}
use Rattle.plai_domain.specs.declared.action.Action.{Action}
use Rattle.plai_domain.specs.Plain.{StateView, PlainDomain}
use Rattle.plai_domain.specs.Instances.{acts_within}
use Rattle.plai_domain.specs.Soundness.{IsFrom, IsSound}
use Rattle.plai_clauses.specs.declared.clause.Clause.{Clause}
use Rattle.plai_clauses.specs.declared.clause.Literal.{Literal}
use Rattle.plai_clauses.specs.declared.clause.Target.{Target}
use Rattle.plai_clauses.specs.declared.clause.Target.TheVariants as target
use Rattle.plai_clauses.specs.Program.{ProgramView, clauses_of}
use Rattle.plai_clauses.specs.WellFormed.{IsWellFormed}
use Rattle.plai_builtins.specs.Actions.{actions_of}
use Rattle.plai_builtins.specs.InTurn.{AllowedInTurn}
use Rattle.plai_builtins.specs.Meaning.{Means}
use Rattle.plai_builtins.proofs.Tables.{actions_within}
use Rattle.plai_eval.specs.Meaning.{as_domain, as_program, Calling, literal_then, steps_of}
use Rattle.plai_sld.specs.declared.item.Item.{Item}
use Rattle.plai_sld.specs.declared.item.Item.TheVariants.{Mark}
use Rattle.plai_sld.specs.Limits.{past}
use Rattle.plai_sld.specs.Runs.{item_under, items_under, goals_of}
use Rattle.plai_sld.proofs.Local.{head_local, rests_local, raised_from, raised_below}
use Rattle.plai_sld.proofs.Above.{past_le, past_brought}
use Rattle.plai_sld.proofs.Going.{IsGoing, going_in, going_on, going_call, going_end}
use Rattle.plai_sld.proofs.Formed.{head_is, head_below, args_are, callee_arity}
use Rattle.plai_sld.proofs.Frames.{IsActive, Frame, IsStack, IsPending, IsUnderWay, IsGood, IsAnswerTold}
use Rattle.plai_sld.proofs.Advance.{items_later, body_later, advanced, instance_later, confined_args, stack_later}
use Rattle.plai_sld.proofs.Instances.{args_below, confined_later, allowed_local, refined}

-- each substitution that a builtin gives is a composition of some that its actions allow in turn
abbrev pub AreMeant : Type 0
AreMeant =
    (name : List ℕ) (args : List Term) (fresh : ℕ) (s : Bindings) → AreBelow fresh args → Means name args fresh (Some s)
    → AllowedInTurn fresh (actions_of name (length args)) args (bound_to s)

then_none : (i : ℕ → Term) → then_also i Var ≡ i
then_none i = λ j v. under_Var (i v) j

-- what a body's first literal does, where its target is known
going_target : (d : PlainDomain) (rows : List (Row (as_domain d))) (r : Row (as_domain d)) (c : Clause) (l : Literal) (t : Target) (rest : List Literal)
    (st : StateView) → l.target ≡ t
    → IsGoing (as_domain d) rows r c (steps_of (l ∷ rest)) st → IsGoing (as_domain d) rows r c (literal_then l t (steps_of rest)) st
going_target d rows r c l t rest st is going = subst (λ t. IsGoing (as_domain d) rows r c (literal_then l t (steps_of rest)) st) is going

module _ (d : PlainDomain) (g : ProgramView) (laws : IsLawful (as_domain d) (as_program d g)) (formed : IsWellFormed g) (sound : IsSound d) (meant : AreMeant)
    (rows : List (Row (as_domain d))) (closed : IsClosed (as_domain d) (as_program d g) rows) where
  -- at a mark, the row describes the answer
  pub top_answer : (r : Row (as_domain d)) (c : Clause) (st : StateView) (i : ℕ → Term) (was : List Term) (from : ℕ) → IsActive d g rows r c [] st i was from
      → IsAnswerTold d rows r.name.pred was (map (under i) c.head)
  top_answer r c st i was from active =
      let (a, is, le) = going_end (as_domain d) rows r c st active.going in (
        r,
        active.row,
        refl,
        active.called,
        a,
        is,
        sound.tells_truly.larger r.name.pred.arity (d.exit st c.head) a (map (under i) c.head) le
            (sound.acts_truly.exit c.head c.variables st i (head_is g formed r.name.pred c active.clause) active.state),
      )

  -- the mark is taken away: the frame below goes on behind its literal
  pub mark_step : (r : Row (as_domain d)) (c : Clause) (st : StateView) (i : ℕ → Term) (was : List Term) (n from : ℕ) (fs : List (Frame d)) (lower : List Item)
      → IsActive d g rows r c [] st i was from → IsStack d g rows fs n from r.name was (map (under i) c.head) lower
      → IsGood d g rows (record { items = lower; next = n })
  mark_step r c st i was n from [] lower active stack = inr (inr stack)
  mark_step r c st i was n from (x ∷ fs) lower active (below, waiting, low, items_are, stack) =
      let (a, is, le) = going_end (as_domain d) rows r c st active.going in
      let args : List Term = map (under x.instance) x.literal.args in
      let part = low.part x.literal (inl refl) in
      let callee : Calling = record { pred = x.callee; args = x.literal.args } in
      let going = going_target d rows x.row x.clause x.literal (target.Pred x.callee) x.rest x.state waiting.target_is low.going in
      let since : IsLocal x.since from args = subst (IsLocal x.since from) waiting.was_is waiting.since in
      let now_is : map (under i) c.head ≡ map (under x.since) args = waiting.now_is ∙ ap (map (under x.since)) waiting.was_is in
      let told : d.describes a (map (under x.since) args) =
      subst (d.describes a) now_is (sound.tells_truly.larger r.name.pred.arity (d.exit st c.head) a (map (under i) c.head) le
      (sound.acts_truly.exit c.head c.variables st i (head_is g formed r.name.pred c active.clause) active.state)) in
      let (after, eb, state) = sound.acts_truly.back x.clause.head x.clause.variables x.state x.instance x.literal.args
      (head_is g formed x.row.name.pred x.clause low.clause)
      (args_are g formed x.row.name.pred x.clause low.clause x.literal part) from x.since a low.state waiting.before since told in
      let looked : source_of (as_domain d) rows x.callee (d.call x.state x.literal.args).value ≡ Some a =
      lookup_name (as_domain d) (as_program d g) laws rows closed.distinct (name_of (as_domain d) x.callee (d.call x.state x.literal.args).value) r active.row
      (sym waiting.name_is) ∙ is in
      inr (inl (record {
        row = x.row;
        clause = x.clause;
        rest = x.rest;
        state = after;
        instance = then_also x.instance x.since;
        was = x.was;
        from = x.from;
        frames = fs;
        lower = below;
        active = record {
          row = low.row;
          clause = low.clause;
          part = λ y j. low.part y (inr j);
          called = low.called;
          state = state;
          going = going_on (as_domain d) rows x.row x.clause callee (steps_of x.rest) x.state after a looked eb going;
          confined = confined_later d g formed x.row.name.pred x.clause low.clause x.instance x.since from x.from x.was args waiting.before waiting.from_le
              since low.confined
              (confined_args d g formed rows x.row x.clause x.literal x.rest x.state x.instance x.was x.from low);
        };
        below = waiting.below;
        from_le = let a : x.from ≤ from = waiting.from_le in let b : from ≤ n = waiting.at_le in omega arith;
        items_are = items_are;
        stack = stack;
      }))

  -- a builtin gives way to its meaning
  pub test_step : (r : Row (as_domain d)) (c : Clause) (b : Literal) (rest : List Literal) (st : StateView) (i : ℕ → Term) (was : List Term) (n from : ℕ)
      (fs : List (Frame d)) (lower : List Item) (s : Bindings)
      → IsActive d g rows r c (b ∷ rest) st i was from → b.target ≡ target.Builtin → IsFrom c.variables n i → from ≤ n
      → IsStack d g rows fs n from r.name was (map (under i) c.head) lower
      → Means b.name (map (under i) b.args) n (Some s)
      → IsUnderWay d g rows (past n s) (items_under (bound_to s) (goals_of i rest ++ Mark r.name.pred was (map (under i) c.head) ∷ lower))
  test_step r c b rest st i was n from fs lower s active is below from_le stack e =
      let f : ℕ → Term = bound_to s in
      let args : List Term = map (under i) b.args in
      let actions : List Action = actions_of b.name (length b.args) in
      let within : (x : Action) → IsIn x actions → acts_within (length b.args) x = λ x j. actions_within b.name (length b.args) x j in
      let same : length args ≡ length b.args = length-map b.args (under i) in
      let part = active.part b (inl refl) in
      let args_lt : AreBelow n args = args_below d g formed r.name.pred c active.clause b part n i below in
      let allowed : AllowedInTurn n actions args f = subst (λ k. AllowedInTurn n (actions_of b.name k) args f) same (meant b.name args n s args_lt e) in
      let local : IsLocal f n args = allowed_local d actions n args f (λ x j. subst (λ k. acts_within k x) (sym same) (within x j)) args_lt allowed in
      let going = going_target d rows r c b target.Builtin rest st is active.going in
      let confined = confined_args d g formed rows r c b rest st i was from active in
      let (after, state, going') = refined d g formed sound.acts_truly rows r c active.clause b part (steps_of rest) actions within st i n f active.state
      below allowed going in
      let le : n ≤ past n s = past_le n s in
      record {
        row = r;
        clause = c;
        rest = rest;
        state = after;
        instance = then_also i f;
        was = was;
        from = from;
        frames = map (advanced d f) fs;
        lower = items_under f lower;
        active = record {
          row = active.row;
          clause = active.clause;
          part = λ y j. active.part y (inr j);
          called = active.called;
          state = state;
          going = going';
          confined = confined_later d g formed r.name.pred c active.clause i f n from was args below from_le local active.confined confined;
        };
        below = instance_later d c n (past n s) i f (past_brought n s) below;
        from_le = omega arith;
        items_are = body_later i f rest r.name.pred was c.head lower;
        stack = subst (λ hs. IsStack d g rows (map (advanced d f) fs) (past n s) from r.name was hs (items_under f lower)) (under_under_all i f c.head)
            (stack_later d g formed rows f n (past n s) args le local (past_brought n s) fs from r.name was (map (under i) c.head) lower confined stack);
      }

  -- a goal gives way to the body of a clause
  pub clause_step : (n : ℕ) (p : PredKey) (ts : List Term) (rest : List Item) (c : Clause) (s : Bindings) → IsPending d g rows n p ts rest
      → IsIn c (clauses_of g p)
      → UnifiesTo (map (under (raised n)) c.head) ts (Unified s)
      → IsUnderWay d g rows (n + c.variables) (items_under (bound_to s) (goals_of (raised n) c.body ++ Mark p ts ts ∷ rest))
  clause_step n p ts rest c s goal inside h =
      let f : ℕ → Term = bound_to s in
      let i : ℕ → Term = then_also (raised n) f in
      let m : ℕ = n + c.variables in
      let le : n ≤ m = omega arith in
      let heads : List Term = map (under (raised n)) c.head in
      let as_many : length c.head ≡ length ts = formed.arities p c inside ∙ sym goal.as_many in
      let u : IsMostGeneral heads ts s = unifier heads ts s (length-map c.head (under (raised n)) ∙ as_many) h in
      let local : IsLocal f n ts = head_local n c.head ts s as_many goal.below h in
      let now_is : map (under f) ts ≡ map (under i) c.head = sym u.unifies ∙ under_under_all (raised n) f c.head in
      let brought : (v : ℕ) → v < n → IsBelow m (f v) = λ v lt w o.
      elim (u.brings v w o) [
        | inl e ↦ omega arith
        | inr (inl e) ↦ raised_below n c.variables c.head (head_below g formed p c inside) w e
        | inr (inr e) ↦ let a : w < n = goal.below w e in omega arith
      ] in
      let instance_at : (v : ℕ) → i v ≡ f (v + n) = λ v. under-Var f (v + n) in
      let (st, is, state) = sound.acts_truly.enter c.head c.variables (head_is g formed p c inside) goal.call ts n s as_many goal.describes goal.below h in
      let name_is = goal.name_is in
      let inside' : IsIn c (clauses_of g goal.row.name.pred) = subst (λ (y : NameOf (as_domain d)). IsIn c (clauses_of g y.pred)) (sym name_is) inside in
      let enters : (d.enter goal.row.name.call c.head c.variables).value ≡ Some st =
      subst (λ (y : NameOf (as_domain d)). (d.enter y.call c.head c.variables).value ≡ Some st) (sym name_is) is in
      let stack = stack_later d g formed rows f n m ts le local brought goal.frames n (name_of (as_domain d) p goal.call) ts ts rest (λ w o. inl o)
      goal.stack in
      record {
        row = goal.row;
        clause = c;
        rest = c.body;
        state = st;
        instance = i;
        was = ts;
        from = n;
        frames = map (advanced d f) goal.frames;
        lower = items_under f rest;
        active = record {
          row = goal.in_rows;
          clause = inside';
          part = λ x j. j;
          called = subst (λ (y : NameOf (as_domain d)). d.describes y.call ts) (sym name_is) goal.describes;
          state = state;
          going = going_in (as_domain d) (as_program d g) rows closed goal.row c goal.in_rows inside' st enters;
          confined = λ v w lt o.
              elim (u.brings (v + n) w (ap (occurs w) (sym (instance_at v)) ∙ o)) [
                | inl e ↦ inr (omega arith)
                | inr (inl e) ↦ inr (raised_from n c.head w e)
                | inr (inr e) ↦ inl e
              ];
        };
        below = λ v lt w o.
            elim (u.brings (v + n) w (ap (occurs w) (sym (instance_at v)) ∙ o)) [
              | inl e ↦ omega arith
              | inr (inl e) ↦ raised_below n c.variables c.head (head_below g formed p c inside) w e
              | inr (inr e) ↦ let a : w < n = goal.below w e in omega arith
            ];
        from_le = le;
        items_are =
            at_mark p c.body f n ts (map (under i) c.head) now_is goal.row.name.pred (ap (λ (y : NameOf (as_domain d)). y.pred) (sym name_is)) rest;
        stack = subst (λ (y : NameOf (as_domain d)). IsStack d g rows (map (advanced d f) goal.frames) m n y ts (map (under i) c.head) (items_under f rest))
            (sym name_is)
            (subst (λ hs. IsStack d g rows (map (advanced d f) goal.frames) m n (name_of (as_domain d) p goal.call) ts hs (items_under f rest)) now_is stack);
      }
    where
      at_mark : (p : PredKey) (xs : List Literal) (f : ℕ → Term) (n : ℕ) (ts hs : List Term) → map (under f) ts ≡ hs → (q : PredKey) → p ≡ q
          → (rest : List Item)
          → items_under f (goals_of (raised n) xs ++ Mark p ts ts ∷ rest) ≡ goals_of (then_also (raised n) f) xs ++ Mark q ts hs ∷ items_under f rest
      at_mark p xs f n ts hs e q same rest =
          map-append (item_under f) (goals_of (raised n) xs) (Mark p ts ts ∷ rest)
          ∙ ap (λ ys. ys ++ Mark p ts (map (under f) ts) ∷ items_under f rest) (items_later (raised n) f xs)
          ∙ ap (λ us. goals_of (then_also (raised n) f) xs ++ Mark p ts us ∷ items_under f rest) e
          ∙ ap (λ r. goals_of (then_also (raised n) f) xs ++ Mark r ts hs ∷ items_under f rest) same

  -- a literal at the front is a goal with a row
  pub call_pending : (r : Row (as_domain d)) (c : Clause) (l : Literal) (q : PredKey) (rest : List Literal) (st : StateView) (i : ℕ → Term) (was : List Term)
      (n from : ℕ) (fs : List (Frame d)) (lower : List Item)
      → IsActive d g rows r c (l ∷ rest) st i was from → l.target ≡ target.Pred q → IsFrom c.variables n i → from ≤ n
      → IsStack d g rows fs n from r.name was (map (under i) c.head) lower
      → IsPending d g rows n q (map (under i) l.args) (goals_of i rest ++ Mark r.name.pred was (map (under i) c.head) ∷ lower)
  call_pending r c l q rest st i was n from fs lower active is below from_le stack =
      let part = active.part l (inl refl) in
      let callee : Calling = record { pred = q; args = l.args } in
      let (row, there, named) = going_call (as_domain d) rows r c callee (steps_of rest) st
      (going_target d rows r c l (target.Pred q) rest st is active.going) in
      let ts : List Term = map (under i) l.args in
      let ts_below : AreBelow n ts = args_below d g formed r.name.pred c active.clause l part n i below in
      let x : Frame d = record { row = r; clause = c; literal = l; callee = q; rest = rest; state = st; instance = i; since = Var; was = was; from = from } in
      record {
        row = row;
        call = (d.call st l.args).value;
        frames = x ∷ fs;
        in_rows = there;
        name_is = named;
        describes = sound.acts_truly.call c.head c.variables st i l.args (head_is g formed r.name.pred c active.clause)
            (args_are g formed r.name.pred c active.clause l part) active.state;
        below = ts_below;
        as_many = length-map l.args (under i) ∙ sym (callee_arity g formed r.name.pred c active.clause l part q is);
        stack = (
          lower,
          record {
            target_is = is;
            name_is = refl;
            was_is = refl;
            now_is = sym (under_Var_all ts);
            now_below = ts_below;
            at_le = omega arith;
            before = below;
            below = subst (IsFrom c.variables n) (sym (then_none i)) below;
            since = rests_local Var n ts (λ v lt. refl);
            from_le = from_le;
          },
          active,
          ap (λ j. goals_of j rest ++ Mark r.name.pred was (map (under j) c.head) ∷ lower) (sym (then_none i)),
          subst (λ j. IsStack d g rows fs n from r.name was (map (under j) c.head) lower) (sym (then_none i)) stack,
        );
      }
