use Rattle.std.proofs.Common.{List, ◌∷◌, [], ◌++◌, sym, subst, ap, ◌∙◌, arith, length}
use Rattle.std.specs.Prelude.{All, IfOk, Result}
use Rattle.std.proofs.lemmas.List.Elements.{All-nil, All-push}
use Rattle.plai_lex.specs.declared.token.Token.{Token}
use Rattle.plai_lex.specs.Tokens.{IsWritten}
use Rattle.plai_clauses.specs.declared.edit_cause.EditCause.{EditCause}
use Rattle.plai_sources.proofs.Terms.{sizes}
use Rattle.plai_script.specs.declared.edit.Edit.{Edit}
use Rattle.plai_script.specs.Scripts.{item_of, script_of}
use Rattle.plai_script.specs.Readable.{IsReadableEdit}
use Rattle.plai_script.proofs.Taken.{begins, goes_on}
use Rattle.plai_script.proofs.script.read_script.Goals as goal

pub loop-items-init : goal.loop-items-init
loop-items-init c =
    let few = c.new-lexer.ensures.few in
    record {
      same = begins c.args.text.now c.new-lexer.result c.new-items.result.items c.new-lexer.ensures.tokens c.new-items.ensures.items;
      readable =
          subst (All (λ (item : Result Edit EditCause). IfOk item IsReadableEdit)) (sym c.new-items.ensures.items)
          (All-nil (λ (item : Result Edit EditCause). IfOk item IsReadableEdit));
      from = omega arith;
      room = omega arith;
    }

pub item-requires-clause-few : goal.item-requires-clause-few
item-requires-clause-few c =
    let takes = rw c.in-Some.is at c.in_ok-tokens.ensures.takes in
    let (some, sum) = sizes c.loop-items.lexer c.take.new.lexer c.in-Some.tokens.items takes.0 takes.1 in
    let same = ap length c.as_slice.ensures.value in
    let from = c.loop-items.invariant.from in
    let room = c.loop-items.invariant.room in
    omega arith

pub item-requires-clause-written : goal.item-requires-clause-written
item-requires-clause-written c =
    let written = rw c.in-Some.is at c.in_ok-tokens.ensures.written in
    subst (λ (ts : List Token). All (λ (token : Token). IsWritten token.kind) ts) (sym c.as_slice.ensures.value) written

pub loop-items-preserved : goal.loop-items-preserved
loop-items-preserved c =
    let takes = rw c.in-Some.is at c.in_ok-tokens.ensures.takes in
    let (some, sum) = sizes c.loop-items.lexer c.take.new.lexer c.in-Some.tokens.items takes.0 takes.1 in
    let from = c.loop-items.invariant.from in
    let room = c.loop-items.invariant.room in
    record {
      same = goes_on (script_of c.args.text.now) c.loop-items.items.items c.push.new.self.items c.loop-items.number c.loop-items.lexer c.take.new.lexer
          c.in-Some.tokens.items
          c.in_ok-item.field-0 c.loop-items.invariant.same takes.0 takes.1 (c.in_ok-item.ensures.item ∙ ap item_of c.as_slice.ensures.value)
          (c.in_ok-push.ensures.items ∙ ap (λ (l : List (Result Edit EditCause)). l ++ c.in_ok-item.field-0 ∷ []) takes.2);
      readable =
          subst (All (λ (item : Result Edit EditCause). IfOk item IsReadableEdit)) (sym c.in_ok-push.ensures.items)
          (All-push (λ (item : Result Edit EditCause). IfOk item IsReadableEdit) c.take.new.items.items c.in_ok-item.field-0
          (c.take.ensures.readable c.loop-items.invariant.readable) c.in_ok-item.ensures.readable);
      from = omega arith;
      room = omega arith;
    }
