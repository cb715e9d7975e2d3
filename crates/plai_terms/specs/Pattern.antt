-- The text of a pattern: what a call's or an answer's arguments may be.
use Rattle.std.specs.Prelude.{◌≡◌, ℕ, ◌^◌, ⊤, Bool, ◌||◌, nat_eq, List, ◌++◌, map, length, if◌then◌else◌, codes}
use Rattle.std.specs.Fmt.{signed_decimal}
use Rattle.std.specs.List.{join_with_byte}
use Rattle.std.specs.Cmp.Lexicographic.{pointwise}
use Rattle.plai_base.specs.Sets.{IsSet}
use Rattle.plai_terms.specs.Atom.{quoted_text, atom_text}
use Rattle.plai_terms.specs.Shape.{set_text}
use Rattle.plai_terms.specs.Groups.{groups_text}
use Rattle.plai_terms.specs.declared.skeleton.Skeleton.{Skeleton, fold-Skeleton}
use Rattle.plai_terms.specs.declared.skeleton.Skeleton.TheOpen.{Skeleton-F}
use Rattle.plai_terms.specs.declared.abs.Abs.{Abs}
use Rattle.plai_terms.specs.declared.abs.Abs.TheVariants.{Nothing, Pos, Groups, Terms}

-- the names that stand for sets of terms
abbrev pub is_reserved : List ℕ → Bool
is_reserved name = pointwise nat_eq name (codes "any") || pointwise nat_eq name (codes "int") || pointwise nat_eq name (codes "atm")

-- an atom, which is no name of a set of terms
abbrev pub constant_text : List ℕ → List ℕ
constant_text name = if is_reserved name then quoted_text name else atom_text name

-- one level of a term cut at a depth, whose arguments are texts already
abbrev pub skeleton_step : Skeleton-F (List ℕ) → List ℕ
skeleton_step Skeleton-F.Any = codes "any"
skeleton_step Skeleton-F.Integer = codes "int"
skeleton_step (Skeleton-F.Int n) = signed_decimal n
skeleton_step (Skeleton-F.Atom a) = constant_text a
skeleton_step (Skeleton-F.Compound name texts) = atom_text name ++ codes "(" ++ join_with_byte 44 texts ++ codes ")"

abbrev pub skeleton_text : Skeleton → List ℕ
skeleton_text = fold-Skeleton (List ℕ) skeleton_step

-- a term for each argument
abbrev pub tuple_text : List Skeleton → List ℕ
tuple_text skeletons = codes "(" ++ join_with_byte 44 (map skeleton_text skeletons) ++ codes ")"

-- `none`; a set of assignments; groups and free slots; a term for each argument
abbrev pub pattern_text : Abs → List ℕ
pattern_text Nothing = codes "none"
pattern_text (Pos arity masks) = set_text arity masks
pattern_text (Groups arity groups free) = groups_text groups free
pattern_text (Terms skeletons) = tuple_text skeletons

-- of how many arguments the pattern speaks
abbrev pub arity_of : Abs → ℕ
arity_of Nothing = 0
arity_of (Pos arity masks) = arity
arity_of (Groups arity groups free) = arity
arity_of (Terms skeletons) = length skeletons

-- none, or a set of assignments to n arguments
abbrev pub IsGroundness : ℕ → Abs → Type 0
IsGroundness n Nothing = ⊤
IsGroundness n (Pos arity masks) = (arity ≡ n) × IsSet (2 ^ n) masks
IsGroundness n (Groups arity groups free) = ⊥
IsGroundness n (Terms skeletons) = ⊥
