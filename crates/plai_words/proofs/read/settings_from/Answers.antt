use Rattle.std.proofs.Common.{ap, sym, ◌∙◌}
use Rattle.clap.specs.Words.{found_of, rows_of}
use Rattle.clap.proofs.WalkLemmas.{first_value-rows}
use Rattle.plai_words.specs.Numbers.{number}
use Rattle.plai_words.specs.Given.{domain_named}
use Rattle.plai_words.specs.Line.{name_of}
use Rattle.plai_words.specs.Options.{Domain, Depth, Rows, Make}
use Rattle.plai_words.specs.Taken.{read_once}
use Rattle.plai_words.proofs.Ends.{no_domain, no_depth, no_rows, no_make, settled, on_match}
use Rattle.plai_words.proofs.read.settings_from.Goals as goal

pub returns-in_err-domain-clause-refused : goal.returns-in_err-domain-clause-refused
returns-in_err-domain-clause-refused c = λ _.
    no_domain (rows_of (found_of c.args.matches.now))
    (ap (read_once domain_named) (sym (c.get_str.ensures ∙ first_value-rows (found_of c.args.matches.now) (name_of Domain))) ∙ c.in_err-domain.ensures.1)

pub returns-in_err-depth-clause-refused : goal.returns-in_err-depth-clause-refused
returns-in_err-depth-clause-refused c = λ _.
    no_depth (rows_of (found_of c.args.matches.now))
    (ap (read_once (number 8)) (sym (c.get_str-2.ensures ∙ first_value-rows (found_of c.args.matches.now) (name_of Depth))) ∙ c.in_err-depth.ensures.read.1)

pub returns-in_err-rows-clause-refused : goal.returns-in_err-rows-clause-refused
returns-in_err-rows-clause-refused c = λ _.
    no_rows (rows_of (found_of c.args.matches.now))
    (ap (read_once (number 200000)) (sym (c.get_str-3.ensures ∙ first_value-rows (found_of c.args.matches.now) (name_of Rows))) ∙ c.in_err-rows.ensures.read.1)

pub returns-in_err-make-clause-refused : goal.returns-in_err-make-clause-refused
returns-in_err-make-clause-refused c = λ _.
    no_make (rows_of (found_of c.args.matches.now))
    (ap (read_once (number 2000)) (sym (c.get_str-4.ensures ∙ first_value-rows (found_of c.args.matches.now) (name_of Make))) ∙ c.in_err-make.ensures.read.1)

pub returns : goal.returns
returns c =
    let f = found_of c.args.matches.now in
    let e = settled (rows_of f) c.in_ok-domain.domain c.in_ok-depth.depth c.in_ok-rows.rows c.in_ok-make.make c.in_ok-files.files.items
    (ap (read_once domain_named) (sym (c.get_str.ensures ∙ first_value-rows f (name_of Domain))) ∙ c.in_ok-domain.ensures)
    (ap (read_once (number 8)) (sym (c.get_str-2.ensures ∙ first_value-rows f (name_of Depth))) ∙ c.in_ok-depth.ensures.read)
    (ap (read_once (number 200000)) (sym (c.get_str-3.ensures ∙ first_value-rows f (name_of Rows))) ∙ c.in_ok-rows.ensures.read)
    (ap (read_once (number 2000)) (sym (c.get_str-4.ensures ∙ first_value-rows f (name_of Make))) ∙ c.in_ok-make.ensures.read)
    c.in_ok-files.ensures.ok in
    let two = on_match e c.complete.result c.complete.ensures.settings in
    record { ok = two.0; refused = two.1; depth = c.complete.ensures.depth; make = c.complete.ensures.make }
