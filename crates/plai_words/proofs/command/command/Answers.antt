use Rattle.std.proofs.Common.{ap, ap₂, ◌∙◌, ◌≡◌, true}
use Rattle.std.proofs.lemmas.Result.{IfOk-weaker}
use Rattle.clap.specs.Words.{App, app_of, with_rule}
use Rattle.clap.specs.Simple.{app_of_fields}
use Rattle.plai_words.proofs.command.command.Goals as goal

pub returns : goal.returns
returns c =
    let named = c.new.ensures.app in
    let bare : App = app_of c.new.result in
    let one : app_of c.no_binary_name.result ≡ record bare { top = record bare.top { no_binary_name = true } } =
    ap app_of_fields c.no_binary_name.ensures in
    let two : app_of c.disable_help_flag.result ≡ record bare { top = record bare.top { no_binary_name = true; disable_help_flag = true } } =
    ap app_of_fields c.disable_help_flag.ensures ∙ ap (λ (a : App). record a { top = record a.top { disable_help_flag = true } }) one in
    let start = two ∙ ap (λ (a : App). record a { top = record a.top { no_binary_name = true; disable_help_flag = true } }) named in
    let first = c.in_ok-arg.ensures.shape c.option.ensures.local ∙ ap₂ with_rule start c.option.ensures.rule in
    let second = c.in_ok-arg-2.ensures.shape c.option-2.ensures.local ∙ ap₂ with_rule first c.option-2.ensures.rule in
    let third = c.in_ok-arg-3.ensures.shape c.option-3.ensures.local ∙ ap₂ with_rule second c.option-3.ensures.rule in
    let fourth = c.in_ok-arg-4.ensures.shape c.option-4.ensures.local ∙ ap₂ with_rule third c.option-4.ensures.rule in
    IfOk-weaker c.arg-5.result _ _ (λ r h. h.shape c.files.ensures.local ∙ ap₂ with_rule fourth c.files.ensures.rule) c.arg-5.ensures
