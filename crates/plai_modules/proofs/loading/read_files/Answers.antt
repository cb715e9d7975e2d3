use Rattle.std.proofs.Common.{◌≡◌, ◌+◌, ◌++◌, [], ◌∷◌, Ok, sym, ap, ◌∙◌, drop, length, arith}
use Rattle.std.proofs.lemmas.List.{length-append}
use Rattle.std.proofs.lemmas.List.Elements.{All-same, All-push}
use Rattle.std.proofs.lemmas.List.Sums.{sum_by_push}
use Rattle.plai_sources.specs.Items.{items_of}
use Rattle.plai_sources.specs.WellFormed.{AreWellFormedItems}
use Rattle.plai_modules.specs.Loading.{files_from, counted, counted_in}
use Rattle.plai_modules.proofs.Passes.{behind, texts_of, read_more}
use Rattle.plai_modules.proofs.loading.read_files.Goals as goal

pub loop-i-preserved : goal.loop-i-preserved
loop-i-preserved c =
    let files = c.args.files.now in
    let i = c.loop-i.i in
    let read = c.loop-i.read.items in
    let items = c.in-Ok.items in
    let pushed : c.push.new.self.items ≡ read ++ items ∷ [] = c.in_ok-push-in-Ok.ensures.items in
    let said : items_of c.index-files-i.result.text c.loop-i.there ≡ Ok items =
    ap (λ text. items_of text c.loop-i.there) (sym c.as_slice.ensures) ∙ c.in-Ok.ensures.answer in (
      read_more files i c.loop-i.there read (files_from 1 0 (texts_of files)) c.loop-i.invariant.0 c.index-files-i.result items c.loop-i-test.true
          c.index-files-i.is said
          ∙ ap (λ fs. behind fs (files_from (i + 1 + 1) items.count (texts_of (drop (i + 1) files)))) (sym pushed),
      c.in-Ok.ensures.few c.loop-i.invariant.1,
      All-same AreWellFormedItems c.push.new.self.items (read ++ items ∷ []) pushed
          (All-push AreWellFormedItems read items c.loop-i.invariant.2 c.in-Ok.ensures.well_formed),
      omega (arith, c.loop-i.invariant.3, simp length-append at (ap length pushed)),
      omega (arith, c.in-Ok.ensures.counted, c.loop-i.invariant.4, ap counted_in pushed, sum_by_push counted read items),
    )

pub returns-clause-well_formed : goal.returns-clause-well_formed
returns-clause-well_formed c = All-same AreWellFormedItems c.new.result c.loop-i.read.items c.new.ensures c.loop-i.invariant.2

pub returns-clause-few : goal.returns-clause-few
returns-clause-few c = omega (arith, ap counted_in c.new.ensures, c.loop-i.invariant.4, c.loop-i.invariant.1)
