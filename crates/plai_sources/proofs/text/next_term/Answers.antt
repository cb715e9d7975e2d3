use Rattle.std.proofs.Common.{sym, subst, ◌∙◌, List}
use Rattle.std.specs.Prelude.{All}
use Rattle.std.proofs.lemmas.Result.{err_from_is_err_and}
use Rattle.std.proofs.lemmas.List.Elements.{All-push}
use Rattle.plai_lex.specs.declared.token.Token.{Token}
use Rattle.plai_lex.specs.Tokens.{IsWritten}
use Rattle.plai_sources.specs.Answering.{AreInside}
use Rattle.plai_sources.proofs.Splits.{AreInside-push}
use Rattle.plai_sources.proofs.Terms.{one_taken, refused_token, at_end}
use Rattle.plai_sources.proofs.text.next_term.Goals as goal

pub returns-in_err-token-clause-takes : goal.returns-in_err-token-clause-takes
returns-in_err-token-clause-takes c =
    refused_token c.args.lexer.now c.loop-tokens.lexer c.next_token.new.lexer c.loop-tokens.tokens.items c.in_err-token.field-0.0 c.from_residual.result
    c.loop-tokens.invariant.inside c.loop-tokens.invariant.same c.in_err-token.ensures.takes
    (err_from_is_err_and c.from_residual.result c.from_residual.ensures.1)

pub loop-tokens-preserved : goal.loop-tokens-preserved
loop-tokens-preserved c =
    let takes = rw c.in-Some.is at c.in_ok-token.ensures.takes in
    let written = rw c.in-Some.is at c.in_ok-token.ensures.written in
    record {
      inside = subst AreInside (sym c.in_ok-push.ensures.items)
          (AreInside-push c.loop-tokens.tokens.items c.in-Some.token c.loop-tokens.invariant.inside (sym c.is_end-is_last.ensures ∙ c.if-is_last.false));
      same = one_taken c.args.lexer.now c.loop-tokens.lexer c.next_token.new.lexer c.loop-tokens.tokens.items c.push.new.self.items c.in-Some.token
          c.loop-tokens.invariant.same takes c.in_ok-push.ensures.items;
      written = subst (λ (ts : List Token). All (λ (token : Token). IsWritten token.kind) ts) (sym c.in_ok-push.ensures.items)
          (All-push (λ (token : Token). IsWritten token.kind) c.loop-tokens.tokens.items c.in-Some.token c.loop-tokens.invariant.written written);
    }

pub returns-clause-takes : goal.returns-clause-takes
returns-clause-takes c =
    let takes = rw c.in_default.is at c.in_ok-token.ensures.takes in
    at_end c.args.lexer.now c.loop-tokens.lexer c.next_token.new.lexer c.loop-tokens.tokens.items c.unended.result
    c.loop-tokens.invariant.inside c.loop-tokens.invariant.same takes c.unended.ensures
