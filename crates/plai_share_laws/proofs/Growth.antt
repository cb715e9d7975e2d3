-- Growth in the words of the specifications: members of lists of masks are told by a test there.
use Rattle.std.proofs.Common.{◌∙◌, ℕ, List, [], ◌∷◌, sym, inl, inr}
use Rattle.plai_theory.specs.Words as words
use Rattle.plai_share_laws.specs.Shares.{Shares}
use Rattle.plai_share_laws.specs.Growth.{IsSmaller, AreContained}
use Rattle.plai_share_laws.specs.Sharing.{LeqShares}
use Rattle.plai_share_laws.proofs.Members.{IsIn}
use Rattle.plai_share_laws.proofs.Lists.{contains_in, in_contains}
use Rattle.plai_share_laws.proofs.Ordered.{Leq, AreCovered}

pub leq_is : (v w : Shares) → IsSmaller v w → Leq v w
leq_is v w h = record {
  slots = h.slots;
  groups = λ m i. contains_in w.groups m (h.groups m (in_contains v.groups m i));
  free = h.free;
}

pub smaller_is : (v w : Shares) → Leq v w → IsSmaller v w
smaller_is v w h = record {
  slots = h.slots;
  groups = λ m e. in_contains w.groups m (h.groups m (contains_in v.groups m e));
  free = h.free;
}

-- of two values in order the first is the smaller one
pub ordered_is : (n : ℕ) (v w : Shares) → LeqShares n v w → IsSmaller v w
ordered_is n v w h = record { slots = h.first.slots ∙ sym h.second.slots; groups = h.groups; free = h.free }

item_of : (x : List ℕ) (xs : List (List ℕ)) → words.IsIn x xs → IsIn x xs
item_of x [] i = i
item_of x (y ∷ ys) (inl e) = inl e
item_of x (y ∷ ys) (inr i) = inr (item_of x ys i)

item_is : (x : List ℕ) (xs : List (List ℕ)) → IsIn x xs → words.IsIn x xs
item_is x [] i = i
item_is x (y ∷ ys) (inl e) = inl e
item_is x (y ∷ ys) (inr i) = inr (item_is x ys i)

pub contained : (xs ys : List (List ℕ)) → AreCovered xs ys → AreContained xs ys
contained xs ys f x i =
    let (y, j, h) = f x (item_of x xs i) in
    (y, item_is y ys j, λ m e. in_contains y m (h m (contains_in x m e)))
