-- What terms reach, more terms reach too; and what is among it are keys.
use Rattle.std.proofs.Common.{◌≡◌, ◌⊎◌, List, [], ◌∷◌, ◌++◌, refl, sym, ap, subst, inl, inr, Option, Some, None, ◌∙◌}
use Rattle.std.specs.List.{AllByRecursion, filter_map, flat_map, cons_option}
use Rattle.std.proofs.lemmas.List.Concat.{flat_map-append}
use Rattle.std.proofs.lemmas.List.Elements.{filter_map-append}
use Rattle.law_terms.specs.Plain.{PlainType, PlainFunction, UufOp, PlainTerm, Application, NoneTerm, LiteralTerm, RecordTerm, SetTerm, SomeTerm, VariableTerm, terms}
use Rattle.law_terms.specs.Reached.{subterms, subterms_of_all, types_within, reached_function, reached_terms, reached_functions, reached_types}
use Rattle.law_terms.specs.TypeValues.{Enums}
use Rattle.law_terms.specs.Types.{type_of}
use Rattle.law_terms.proofs.Soundness.{all-front, all-back}
use Rattle.law_theorem.specs.Open.{IsAmong}
use Rattle.law_theorem.proofs.EntryKeys.{IsKey}

module _ {A : Type 0} where
  pub in_front : (x : A) (xs ys : List A) → IsAmong x xs → IsAmong x (xs ++ ys)
  in_front x [] ys h = absurd h
  in_front x (z ∷ xs) ys (inl e) = inl e
  in_front x (z ∷ xs) ys (inr h) = inr (in_front x xs ys h)

  pub in_back : (x : A) (xs ys : List A) → IsAmong x ys → IsAmong x (xs ++ ys)
  in_back x [] ys h = h
  in_back x (z ∷ xs) ys h = inr (in_back x xs ys h)

  pub all_among : (P : A → Type 0) (xs : List A) → ((x : A) → IsAmong x xs → P x) → AllByRecursion P xs
  all_among P [] f = tt
  all_among P (x ∷ xs) f = (f x (inl refl), all_among P xs (λ y h. f y (inr h)))

  in_flat : {B : Type 0} (g : B → List A) (u : B) (us : List B) (x : A) → IsAmong u us → IsAmong x (g u) → IsAmong x (flat_map g us)
  in_flat {B} g u [] x h k = absurd h
  in_flat {B} g u (v ∷ us) x (inl e) k = in_front x (g v) (flat_map g us) (subst (λ (w : B). IsAmong x (g w)) (sym e) k)
  in_flat {B} g u (v ∷ us) x (inr h) k = in_back x (g v) (flat_map g us) (in_flat g u us x h k)

  in_filtered : {B : Type 0} (g : B → Option A) (u : B) (us : List B) (x : A) → g u ≡ Some x → IsAmong u us → IsAmong x (filter_map g us)
  in_filtered {B} g u [] x e h = absurd h
  in_filtered {B} g u (v ∷ us) x e (inl q) = let f : g v ≡ Some x = ap g q ∙ e in subst (λ (o : Option A). IsAmong x (cons_option o (filter_map g us))) (sym f) (inl refl)
  in_filtered {B} g u (v ∷ us) x e (inr h) = by (g v) (in_filtered g u us x e h)
    where
      by : (o : Option A) → IsAmong x (filter_map g us) → IsAmong x (cons_option o (filter_map g us))
      by None k = k
      by (Some y) k = inr k

-- ---- more terms

module _ (ts more : List PlainTerm) where
  terms_joined : reached_terms (ts ++ more) ≡ reached_terms ts ++ reached_terms more
  terms_joined = flat_map-append subterms ts more

  pub terms_last : (t : PlainTerm) → IsAmong t (reached_terms ts) → IsAmong t (reached_terms (ts ++ more))
  terms_last t h = subst (IsAmong t) (sym terms_joined) (in_front t (reached_terms ts) (reached_terms more) h)

  pub terms_new : (t : PlainTerm) → IsAmong t (reached_terms more) → IsAmong t (reached_terms (ts ++ more))
  terms_new t h = subst (IsAmong t) (sym terms_joined) (in_back t (reached_terms ts) (reached_terms more) h)

  functions_joined : reached_functions (ts ++ more) ≡ reached_functions ts ++ reached_functions more
  functions_joined = ap (filter_map reached_function) terms_joined ∙ filter_map-append reached_function (reached_terms ts) (reached_terms more)

  pub functions_last : (f : PlainFunction) → IsAmong f (reached_functions ts) → IsAmong f (reached_functions (ts ++ more))
  functions_last f h = subst (IsAmong f) (sym functions_joined) (in_front f (reached_functions ts) (reached_functions more) h)

  abbrev of_terms : List PlainTerm → List PlainType
  of_terms us = flat_map (λ t. types_within (type_of t)) us

  abbrev of_functions : List PlainFunction → List PlainType
  of_functions fs = flat_map (λ (f : PlainFunction). types_within f.argument ++ types_within f.output) fs

  either : (y : PlainType) (xs zs : List PlainType) → IsAmong y (xs ++ zs) → IsAmong y xs ⊎ IsAmong y zs
  either y [] zs h = inr h
  either y (x ∷ xs) zs (inl e) = inl (inl e)
  either y (x ∷ xs) zs (inr h) = elim (either y xs zs h) [ inl k ↦ inl (inr k) | inr k ↦ inr k ]

  pub types_last : (y : PlainType) → IsAmong y (reached_types ts) → IsAmong y (reached_types (ts ++ more))
  types_last y h = elim (either y (of_terms (reached_terms ts)) (of_functions (reached_functions ts)) h) [
    | inl k ↦ in_front y (of_terms (reached_terms (ts ++ more))) (of_functions (reached_functions (ts ++ more)))
        (subst (λ us. IsAmong y (of_terms us)) (sym terms_joined)
        (subst (IsAmong y) (sym (flat_map-append (λ t. types_within (type_of t)) (reached_terms ts) (reached_terms more))) (in_front y (of_terms (reached_terms ts)) (of_terms (reached_terms more)) k)))
    | inr k ↦ in_back y (of_terms (reached_terms (ts ++ more))) (of_functions (reached_functions (ts ++ more)))
        (subst (λ fs. IsAmong y (of_functions fs)) (sym functions_joined)
        (subst (IsAmong y) (sym (flat_map-append (λ (f : PlainFunction). types_within f.argument ++ types_within f.output) (reached_functions ts) (reached_functions more))) (in_front y (of_functions (reached_functions ts)) (of_functions (reached_functions more)) k)))
  ]

-- ---- keys

pub parts_are : (ts : List PlainTerm) → subterms_of_all (terms ts) ≡ reached_terms ts
parts_are [] = refl
parts_are (t ∷ ts) = ap (λ (xs : List PlainTerm). subterms t ++ xs) (parts_are ts)

module _ (enums : Enums) (all : List PlainTerm) where
  -- what is reached
  abbrev pub T : PlainTerm → Type 0
  T t = IsAmong t (reached_terms all)

  abbrev pub F : PlainFunction → Type 0
  F f = IsAmong f (reached_functions all)

  abbrev pub Y : PlainType → Type 0
  Y y = IsAmong y (reached_types all)

  terms_types : (t : PlainTerm) → IsAmong t (reached_terms all) → AllByRecursion Y (types_within (type_of t))
  terms_types t h =
      all_among Y (types_within (type_of t))
      (λ y k. in_front y (flat_map (λ t. types_within (type_of t)) (reached_terms all)) (flat_map (λ (f : PlainFunction). types_within f.argument ++ types_within f.output) (reached_functions all))
      (in_flat (λ t. types_within (type_of t)) t (reached_terms all) y h k))

  functions_types : (f : PlainFunction) → IsAmong f (reached_functions all) → AllByRecursion Y (types_within f.argument ++ types_within f.output)
  functions_types f h =
      all_among Y (types_within f.argument ++ types_within f.output)
      (λ y k. in_back y (flat_map (λ t. types_within (type_of t)) (reached_terms all)) (flat_map (λ (g : PlainFunction). types_within g.argument ++ types_within g.output) (reached_functions all))
      (in_flat (λ (g : PlainFunction). types_within g.argument ++ types_within g.output) f (reached_functions all) y h k))

  -- what is reached is a key
  pub key : (t : PlainTerm) → IsAmong t (reached_terms all) → IsKey enums T F Y t
  key (Application (UufOp f) ts type) h =
      let g : F f = in_filtered reached_function (Application (UufOp f) ts type) (reached_terms all) f refl h in
      let ys = functions_types f g in
      (h, terms_types (Application (UufOp f) ts type) h, (g, all-front Y (types_within f.argument) (types_within f.output) ys, all-back Y (types_within f.argument) (types_within f.output) ys))
  key (Application op ts type) h = (h, terms_types (Application op ts type) h, tt)
  key (NoneTerm type) h = (h, terms_types (NoneTerm type) h, tt)
  key (LiteralTerm l) h = (h, terms_types (LiteralTerm l) h, tt)
  key (RecordTerm x) h = (h, terms_types (RecordTerm x) h, tt)
  key (SetTerm type ts) h = (h, terms_types (SetTerm type ts) h, tt)
  key (SomeTerm t) h = (h, terms_types (SomeTerm t) h, tt)
  key (VariableTerm id type) h = (h, terms_types (VariableTerm id type) h, tt)

  pub keys : (ts : List PlainTerm) → ((t : PlainTerm) → IsAmong t (reached_terms ts) → IsAmong t (reached_terms all)) → AllByRecursion (IsKey enums T F Y) (subterms_of_all (terms ts))
  keys ts f = subst (AllByRecursion (IsKey enums T F Y)) (sym (parts_are ts)) (all_among (IsKey enums T F Y) (reached_terms ts) (λ t h. key t (f t h)))

  pub parts_occur : (ts : List PlainTerm) → ((t : PlainTerm) → IsAmong t (reached_terms ts) → IsAmong t (reached_terms all)) → AllByRecursion (λ t. IsAmong t (reached_terms all)) (subterms_of_all (terms ts))
  parts_occur ts f = subst (AllByRecursion (λ t. IsAmong t (reached_terms all))) (sym (parts_are ts)) (all_among (λ t. IsAmong t (reached_terms all)) (reached_terms ts) f)
