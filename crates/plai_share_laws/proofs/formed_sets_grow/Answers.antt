use Rattle.std.proofs.Common.{[]}
use Rattle.plai_share_laws.specs.Shares.{answered_formed}
use Rattle.plai_share_laws.specs.Sharing.{shares_of}
use Rattle.plai_share_laws.proofs.Lists.{contains_in, in_contains}
use Rattle.plai_share_laws.proofs.Monotone.{unify_leq, unify_grows, answered_grows}
use Rattle.plai_share_laws.proofs.Compose.{widen_by_leq, enter_grows, extend_grows, extend_leq, back_grows, acted_grows, refine_grows}
use Rattle.plai_share_laws.proofs.Growth.{leq_is, smaller_is, ordered_is, contained}
use Rattle.plai_share_laws.proofs.formed_sets_grow.Goals as goal

pub returns : goal.returns
returns c = record {
  order = λ n a b h. ordered_is n (shares_of a) (shares_of b) h.order;
  widened = λ m v w h. smaller_is _ _ (widen_by_leq m v w (leq_is v w h));
  extended = λ n args v w h. smaller_is _ _ (extend_leq n args v w (leq_is v w h));
  unify = λ x t v w h. (contained _ _ (unify_grows x t v w (leq_is v w h)), smaller_is _ _ (unify_leq x t v w (leq_is v w h)));
  answered = λ a answer larger v w f h. contained (answered_formed a answer v) (answered_formed a larger w)
      (answered_grows a answer larger 0 0 (λ m i. contains_in larger m (f m (in_contains answer m i))) (λ k e. e) v w (leq_is v w h));
  acted = λ n action v w h. contained _ _ (acted_grows n [] v w (leq_is v w h) action v w (leq_is v w h));
  enter = λ variables args v w h. contained _ _ (enter_grows 0 args v w (leq_is v w h) variables);
  call = λ n args v w h. contained _ _ (extend_grows n args v w (leq_is v w h));
  back = λ n args v w answer larger h k. contained _ _ (back_grows n args v w (leq_is v w h) answer larger (leq_is answer larger k));
  refine = λ n args action v w h. contained _ _ (refine_grows n args v w (leq_is v w h) action);
}
