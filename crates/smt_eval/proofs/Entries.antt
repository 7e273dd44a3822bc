-- What a look-up in entries finds, by what the entries say.
use Rattle.std.proofs.Common.{◌≡◌, Bool, true, false, cond, List, [], ◌∷◌, Option, Some, None, Bor, map, option_map, refl, ap, ◌∙◌}
use Rattle.std.specs.Map.{lookup}

shown : {V B : Type 0} (value : V → B) (found : Option (Bor V)) → option_map (λ v. value v.now) found ≡ option_map value (option_map (λ v. v.now) found)
shown value None = refl
shown value (Some v) = refl

said : {V B : Type 0} (value : V → B) (b : Bool) (v : V) (o : Option V) → option_map value (cond b (Some v) o) ≡ cond b (Some (value v)) (option_map value o)
said value true v o = refl
said value false v o = refl

module _ {K V C B : Type 0} (key : K → C) (value : V → B) (test : K → Bool) (seen : C → Bool) (same : (k : K) → test k ≡ seen (key k)) where
  look_up-said : (es : List (K × V)) → option_map value (lookup test es) ≡ lookup seen (map (λ e. (key e.0, value e.1)) es)
  look_up-said [] = refl
  look_up-said (e ∷ es) = said value (test e.0) e.1 (lookup test es) ∙ (λ i. cond (same e.0 i) (Some (value e.1)) (look_up-said es i))

  -- a test of the keys that is one of what they say finds what the value says
  pub finds_said : (es : List (K × V)) (found : Option (Bor V)) → option_map (λ v. v.now) found ≡ lookup test es → option_map (λ v. value v.now) found ≡ lookup seen (map (λ e. (key e.0, value e.1)) es)
  finds_said es found h = shown value found ∙ ap (option_map value) h ∙ look_up-said es
