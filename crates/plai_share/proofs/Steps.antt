-- Unification in parts: what each part forms, and what comes of it.
use Rattle.std.proofs.Common.{◌≡◌, ℕ, Bool, ◌||◌, bit_or, List, ◌++◌, Option, refl, sym, ap, ◌∙◌}
use Rattle.plai_share_laws.specs.Groups.{normal, rel, missing, star, bin}
use Rattle.plai_share_laws.specs.Shares.{Shares, Side, slots_of, is_free, united, unify_groups, unify, unify_formed}
use Rattle.plai_share.specs.Formed.{IsFormed, groups_formed}
use Rattle.plai_share.proofs.InOrder.{normal_twice}
use Rattle.plai_share.proofs.AllUnions.{formed_same, bin_same}
use Rattle.plai_share.proofs.Answered.{behind_same}
use Rattle.plai_share.proofs.Places.{united_more}

pub star_sides : (all base left right : List ℕ) (o : Option (List ℕ)) → all ≡ normal (star left) → normal (star base) ≡ normal (star right)
    → IsFormed (bin all (star base)) o → IsFormed (bin (star left) (star right)) o
star_sides all base left right o e f h = formed_same (bin all (star base)) (bin (star left) (star right))
    (bin_same all (star base) (star left) (star right) (ap normal e ∙ normal_twice (star left)) f) o h

-- the new groups are a set that is formed
pub new_groups : (one : Bool) (a b : ℕ) (s us all : List ℕ) (o : Option (List ℕ)) → us ≡ normal (united one (rel a s) (rel b s))
    → all ≡ missing (bit_or a b) s ++ us
    → IsFormed all o → IsFormed (unify_groups one a b s) o
new_groups one a b s us all o e d h = formed_same all (unify_groups one a b s)
    (ap normal d ∙ ap (λ zs. normal (missing (bit_or a b) s ++ zs)) e ∙ behind_same (missing (bit_or a b) s) (united one (rel a s) (rel b s))
    ∙ sym (normal_twice (missing (bit_or a b) s ++ united one (rel a s) (rel b s)))) o h

pub same_groups : (one : Bool) (a b : ℕ) (s : List ℕ) → normal (unify_groups one a b s) ≡ unify_groups one a b s
same_groups one a b s = normal_twice (missing (bit_or a b) s ++ united one (rel a s) (rel b s))

pub unify_sets : (x t : Side) (v : Shares) (one : Bool) (a b : ℕ) (s : List ℕ) → one ≡ (is_free v.free x || is_free v.free t) → a ≡ slots_of x
    → b ≡ slots_of t → s ≡ v.groups
    → groups_formed one a b s ≡ unify_formed x t v
unify_sets x t v one a b s e f g h =
    (λ i. groups_formed (e i) (f i) (g i) (h i))
    ∙ united_more (is_free v.free x || is_free v.free t) (rel (slots_of x) v.groups) (rel (slots_of t) v.groups) (unify x t v).groups
    (united (is_free v.free x || is_free v.free t) (rel (slots_of x) v.groups) (rel (slots_of t) v.groups)) refl
