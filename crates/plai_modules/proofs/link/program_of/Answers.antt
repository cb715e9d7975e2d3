use Rattle.std.proofs.Common.{◌≡◌, ◌∙◌, ℕ, ◌+◌, ◌≤◌, ◌++◌, [], ◌∷◌, List, Err, length, drop, map, refl, sym, ap, subst, rules, arith}
use Rattle.std.specs.Prelude.{Result}
use Rattle.std.proofs.lemmas.Iterator.Adapters.{YieldsList-from_vec}
use Rattle.std.proofs.lemmas.Iterator.Consumers.{YieldsList-turn, YieldsList-end}
use Rattle.plai_clauses.specs.Program.{ProgramView}
use Rattle.plai_sources.specs.declared.items.FileItems.{FileItems}
use Rattle.plai_sources.specs.Items.{Refusal}
use Rattle.plai_sources.specs.WellFormed.{AreWellFormedItems}
use Rattle.plai_modules.specs.Importing.{head_of_file}
use Rattle.plai_modules.specs.Loading.{linked, linked_from, program_of}
use Rattle.plai_modules.specs.declared.fail.LoadFail.{LoadFail}
use Rattle.plai_modules.specs.Outcomes.{Answers, Leaves, fail_in}
use Rattle.plai_modules.proofs.Counted.{program-counted}
use Rattle.plai_modules.proofs.Formed.{formed-program}
use Rattle.plai_modules.proofs.Heads.{heads_linked}
use Rattle.plai_modules.proofs.Passes.{link_all, link_more, link_fails}
use Rattle.plai_modules.proofs.Taken.{length_push}
use Rattle.plai_modules.proofs.link.program_of.Goals as goal

pub loop-file-init : goal.loop-file-init
loop-file-init c = record {
  can = tt;
  finite = tt;
  number = refl;
  program = ap (λ (p : ProgramView). linked_from c.args.files.items 1 p c.args.files.items) (sym c.new-program.ensures);
}

pub link_file-requires : goal.link_file-requires
link_file-requires c =
    let h = c.into_iter-file-iterator.ensures.into_iter_gives in
    let all = YieldsList-from_vec {s = c.into_iter-file-iterator.result} c.args.files.items h.0 (search (rules, h.1)) in
    let turn =
    YieldsList-turn all c.loop-file.yielded c.loop-file.file-iterator c.loop-file.yielded_by c.next.result c.next.new.self c.in-Some.file c.in-Some.is
    c.next.ensures.steps in
    subst AreWellFormedItems (sym turn.1) (c.requires.items (length c.loop-file.yielded) c.in-Some.file turn.0)

pub loop-file-preserved : goal.loop-file-preserved
loop-file-preserved c =
    let files = c.args.files.items in
    let new = c.link_file.new.program in
    let h = c.into_iter-file-iterator.ensures.into_iter_gives in
    let all = YieldsList-from_vec {s = c.into_iter-file-iterator.result} c.args.files.items h.0 (search (rules, h.1)) in
    let turn =
    YieldsList-turn all c.loop-file.yielded c.loop-file.file-iterator c.loop-file.yielded_by c.next.result c.next.new.self c.in-Some.file c.in-Some.is
    c.next.ensures.steps in
    let heads : c.as_slice-in-loop-file.result.now ≡ map head_of_file files =
    c.as_slice-in-loop-file.ensures.value ∙ c.in_ok-exporters.ensures ∙ ap (map head_of_file) c.as_slice.ensures.value in
    let same : linked c.as_slice-in-loop-file.result.now c.loop-file.program c.in-Some.file ≡ linked files c.loop-file.program c.in-Some.file =
    ap (λ (fs : List FileItems). linked fs c.loop-file.program c.in-Some.file) heads ∙ heads_linked files c.loop-file.program c.in-Some.file in
    let more = link_more files (length c.loop-file.yielded) c.loop-file.program c.loop-file.invariant.program c.in-Some.file new turn.0 turn.1
    (sym same ∙ c.in-Ok.ensures) in
    let count : length (c.loop-file.yielded ++ c.in-Some.file ∷ []) ≡ length c.loop-file.yielded + 1 = length_push c.loop-file.yielded c.in-Some.file in
    record {
      can = tt;
      finite = tt;
      number = ap (λ (n : ℕ). n + 1) c.loop-file.invariant.number ∙ sym count;
      program = subst (λ (n : ℕ). program_of files ≡ linked_from files (n + 1) new (drop n files)) (sym count) more;
    }

pub returns-in-Err-clause-answer : goal.returns-in-Err-clause-answer
returns-in-Err-clause-answer c =
    let files = c.args.files.items in
    let new = c.link_file.new.program in
    let h = c.into_iter-file-iterator.ensures.into_iter_gives in
    let all = YieldsList-from_vec {s = c.into_iter-file-iterator.result} c.args.files.items h.0 (search (rules, h.1)) in
    let turn =
    YieldsList-turn all c.loop-file.yielded c.loop-file.file-iterator c.loop-file.yielded_by c.next.result c.next.new.self c.in-Some.file c.in-Some.is
    c.next.ensures.steps in
    let heads : c.as_slice-in-loop-file.result.now ≡ map head_of_file files =
    c.as_slice-in-loop-file.ensures.value ∙ c.in_ok-exporters.ensures ∙ ap (map head_of_file) c.as_slice.ensures.value in
    let same : linked c.as_slice-in-loop-file.result.now c.loop-file.program c.in-Some.file ≡ linked files c.loop-file.program c.in-Some.file =
    ap (λ (fs : List FileItems). linked fs c.loop-file.program c.in-Some.file) heads ∙ heads_linked files c.loop-file.program c.in-Some.file in
    let left : Leaves (linked files c.loop-file.program c.in-Some.file) new (Err c.in-Err.fail) =
    subst (λ (r : Result ProgramView Refusal). Leaves r new (Err c.in-Err.fail)) same c.in-Err.ensures in
    let e : c.fail_in.result ≡ fail_in (length c.loop-file.yielded + 1) c.in-Err.fail =
    c.fail_in.ensures ∙ ap (λ (n : ℕ). fail_in (n + 1) c.in-Err.fail) c.loop-file.invariant.number in
    subst (λ (f : LoadFail). Answers (program_of files) (Err f)) (sym e)
    (link_fails files (length c.loop-file.yielded) c.loop-file.program c.loop-file.invariant.program c.in-Some.file new c.in-Err.fail turn.0 turn.1 left)

pub returns-clause-well_formed : goal.returns-clause-well_formed
returns-clause-well_formed c =
    let laws = c.change_laws.ensures in
    let files = c.args.files.items in
    let h = c.into_iter-file-iterator.ensures.into_iter_gives in
    let all = YieldsList-from_vec {s = c.into_iter-file-iterator.result} c.args.files.items h.0 (search (rules, h.1)) in
    let end =
    YieldsList-end all c.loop-file.yielded c.loop-file.file-iterator c.loop-file.yielded_by c.next.result c.next.new.self c.in-None.is c.next.ensures.steps in
    let whole : length c.args.files.items ≤ length c.loop-file.yielded = omega (arith, end.1) in
    formed-program laws.added_module laws.added_clause laws.added_entry laws.added_check c.clause_law.ensures files c.loop-file.program c.requires.items
    (link_all files (length c.loop-file.yielded) c.loop-file.program c.loop-file.invariant.program whole)

pub returns-clause-few : goal.returns-clause-few
returns-clause-few c =
    let files = c.args.files.items in
    let h = c.into_iter-file-iterator.ensures.into_iter_gives in
    let all = YieldsList-from_vec {s = c.into_iter-file-iterator.result} c.args.files.items h.0 (search (rules, h.1)) in
    let end =
    YieldsList-end all c.loop-file.yielded c.loop-file.file-iterator c.loop-file.yielded_by c.next.result c.next.new.self c.in-None.is c.next.ensures.steps in
    let whole : length c.args.files.items ≤ length c.loop-file.yielded = omega (arith, end.1) in
    program-counted files c.loop-file.program (link_all files (length c.loop-file.yielded) c.loop-file.program c.loop-file.invariant.program whole)
