-- Steps of a proof in pairs.
use Rattle.std.proofs.Common.{◌≡◌, ℕ, List, [], ◌∷◌, ◌++◌, length, ap, refl}
use Rattle.std.specs.Prelude.{Bool, Some, slice_get, suc, zero}
use Rattle.std.specs.List.{zip}

-- one more pair, at the end
pub zip-push : (bs : List Bool) (cs : List (List ℕ)) (b : Bool) (c : List ℕ) → length bs ≡ length cs → zip (bs ++ b ∷ []) (cs ++ c ∷ []) ≡ zip bs cs ++ (b, c) ∷ []
zip-push [] [] b c h = refl
zip-push [] (d ∷ cs) b c h = cc
zip-push (a ∷ bs) [] b c h = cc
zip-push (a ∷ bs) (d ∷ cs) b c h = let e : length bs ≡ length cs = cc in ap (λ (ps : List (Bool × List ℕ)). (a, d) ∷ ps) (zip-push bs cs b c e)

-- the pair at a place
pub zip-at : (bs : List Bool) (cs : List (List ℕ)) (k : ℕ) (b : Bool) (c : List ℕ) → slice_get bs k ≡ Some b → slice_get cs k ≡ Some c → slice_get (zip bs cs) k ≡ Some (b, c)
zip-at [] cs k b c h i = cc
zip-at (a ∷ bs) [] k b c h i = cc
zip-at (a ∷ bs) (d ∷ cs) zero b c h i = cc
zip-at (a ∷ bs) (d ∷ cs) (suc k) b c h i = zip-at bs cs k b c h i

-- as many pairs as steps
pub zip-length : (bs : List Bool) (cs : List (List ℕ)) → length bs ≡ length cs → length bs ≡ length (zip bs cs)
zip-length [] cs h = refl
zip-length (b ∷ bs) [] h = cc
zip-length (b ∷ bs) (c ∷ cs) h = let e : length bs ≡ length cs = cc in ap suc (zip-length bs cs e)
