-- Groundness meets the laws of an abstract domain.
use Rattle.std.proofs.Common.{[]}
use Rattle.plai_domain.specs.Outcomes.{SomeTooLarge}
use Rattle.plai_domain.specs.Laws.{IsLawful}
use Rattle.plai_pos_laws.specs.Groundness.{groundness}
use Rattle.plai_pos_laws.proofs.Laws.{trans, antisym, left, right, above_first, above_second, least, falls, describe_value, enter_monotone, call_monotone}
use Rattle.plai_pos_laws.proofs.Laws.{back_monotone, refine_monotone, exit_monotone}

-- no set is too large where none is formed
nothing_over : SomeTooLarge [] → ⊥
nothing_over over = cc

pub groundness_lawful : IsLawful groundness
groundness_lawful =
    record {
      ordered = record {
        trans = λ n a b c. trans;
        antisym = λ n a b. antisym;
        left = λ n a b. left;
        right = λ n a b. right;
        join_first = λ n a b. above_first;
        join_second = λ n a b. above_second;
        join_least = λ n a b c. least;
        describe = λ n pre few. describe_value n pre;
      };
      monotone = record {
        enter = λ n v head a b h. enter_monotone n v head a b h.arity h.below;
        call = λ n v args s t h. call_monotone n v args s t h.below;
        back = λ n v args s t a b h. back_monotone n v args s t a b h.below;
        refine = λ n v args action s t h w. refine_monotone n v args action s t h.below w;
        exit = λ n v head s t h. exit_monotone n v head s t;
      };
      ranked = record { falls = λ n a b. falls };
      forms_more = record {
        enter = λ n v head a b h le over. absurd (nothing_over over);
        call = λ n v args s t h le over. absurd (nothing_over over);
        back = λ n v args s t a b h le k over. absurd (nothing_over over);
        refine = λ n v args action s t h w le over. absurd (nothing_over over);
      };
      shaped = record { arity = λ n v s t h. h.first_arity; variables = λ n v s t h. h.first_variables };
    }
