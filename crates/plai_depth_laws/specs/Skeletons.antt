-- Terms cut at a depth, as sets of terms: cuts, joins and meets (Sato and Tamaki 1984).
use Rattle.std.specs.Prelude.{ℕ, zero, suc, Bool, ◌&&◌, nat_eq, if◌then◌else◌, List, [], ◌∷◌, map, length, replicate, Option, Some, None}
use Rattle.std.specs.Cmp.Lexicographic.{pointwise}
use Rattle.std.specs.Ordering.{int_eq}
use Rattle.std.specs.Option.{option_map, option_and_then}
use Rattle.plai_terms.specs.Term.{integer_fits}
use Rattle.plai_terms.specs.declared.skeleton.Skeleton.{Skeleton, fold-Skeleton, out-Skeleton, Any, Integer, Int, Atom, Compound}
use Rattle.plai_terms.specs.declared.skeleton.Skeleton.TheOpen.{Skeleton-F}

-- one layer, cut by f in its arguments; an integer that needs more than 128 bits stands as `int`
abbrev pub cut_layer : (Skeleton → Skeleton) → Skeleton-F Skeleton → Skeleton
cut_layer f Skeleton-F.Any = Any
cut_layer f Skeleton-F.Integer = Integer
cut_layer f (Skeleton-F.Int n) = if integer_fits n then Int n else Integer
cut_layer f (Skeleton-F.Atom a) = Atom a
cut_layer f (Skeleton-F.Compound name args) = Compound name (map f args)

-- each part at a depth over k is `any`, the root being at depth 1
abbrev pub cut : ℕ → Skeleton → Skeleton
cut zero s = Any
cut (suc k) s = cut_layer (cut k) (out-Skeleton s)

-- equal names, and as many arguments
abbrev pub same_functor : List ℕ → ℕ → List ℕ → ℕ → Bool
same_functor a m b n = pointwise nat_eq a b && nat_eq m n

-- argument by argument
abbrev pub join_args : List (Skeleton → Skeleton) → List Skeleton → List Skeleton
join_args (j ∷ js) (t ∷ ts) = j t ∷ join_args js ts
join_args _ _ = []

-- one layer with another, where the first one's arguments are joined already: two different integers, or an integer and `int`,
-- give `int`, equal functors go on, other clashes give `any`
abbrev pub join_layer : Skeleton-F (Skeleton → Skeleton) → Skeleton-F Skeleton → Skeleton
join_layer Skeleton-F.Integer Skeleton-F.Integer = Integer
join_layer Skeleton-F.Integer (Skeleton-F.Int n) = Integer
join_layer (Skeleton-F.Int m) Skeleton-F.Integer = Integer
join_layer (Skeleton-F.Int m) (Skeleton-F.Int n) = if int_eq m n then Int m else Integer
join_layer (Skeleton-F.Atom a) (Skeleton-F.Atom b) = if pointwise nat_eq a b then Atom a else Any
join_layer (Skeleton-F.Compound a js) (Skeleton-F.Compound b ts) =
    if same_functor a (length js) b (length ts) then Compound a (join_args js ts) else Any
join_layer _ _ = Any

-- the least skeleton above both
abbrev pub join : Skeleton → Skeleton → Skeleton
join = fold-Skeleton (Skeleton → Skeleton) (λ x t. join_layer x (out-Skeleton t))

-- one more, where there are others
abbrev pub consed : Skeleton → Option (List Skeleton) → Option (List Skeleton)
consed m ms = option_map (λ rest. m ∷ rest) ms

-- argument by argument, or none
abbrev pub meet_args : List (Skeleton → Option Skeleton) → List Skeleton → Option (List Skeleton)
meet_args (m ∷ ms) (t ∷ ts) = option_and_then (λ s. consed s (meet_args ms ts)) (m t)
meet_args _ _ = Some []

-- one layer with another, where the first one's arguments have their meets already: `any` stands for each compound over `any`
abbrev pub meet_layer : Skeleton-F (Skeleton → Option Skeleton) → Skeleton-F Skeleton → Option Skeleton
meet_layer Skeleton-F.Integer Skeleton-F.Any = Some Integer
meet_layer Skeleton-F.Integer Skeleton-F.Integer = Some Integer
meet_layer Skeleton-F.Integer (Skeleton-F.Int n) = Some (Int n)
meet_layer (Skeleton-F.Int m) Skeleton-F.Any = Some (Int m)
meet_layer (Skeleton-F.Int m) Skeleton-F.Integer = Some (Int m)
meet_layer (Skeleton-F.Int m) (Skeleton-F.Int n) = if int_eq m n then Some (Int m) else None
meet_layer (Skeleton-F.Atom a) Skeleton-F.Any = Some (Atom a)
meet_layer (Skeleton-F.Atom a) (Skeleton-F.Atom b) = if pointwise nat_eq a b then Some (Atom a) else None
meet_layer (Skeleton-F.Compound a ms) Skeleton-F.Any = option_map (Compound a) (meet_args ms (replicate (length ms) Any))
meet_layer (Skeleton-F.Compound a ms) (Skeleton-F.Compound b ts) =
    if same_functor a (length ms) b (length ts) then option_map (Compound a) (meet_args ms ts) else None
meet_layer _ _ = None

abbrev pub meet_step : Skeleton-F (Skeleton → Option Skeleton) → Skeleton → Option Skeleton
meet_step Skeleton-F.Any t = Some t
meet_step x t = meet_layer x (out-Skeleton t)

-- the greatest skeleton below both, or none
abbrev pub meet : Skeleton → Skeleton → Option Skeleton
meet = fold-Skeleton (Skeleton → Option Skeleton) meet_step
