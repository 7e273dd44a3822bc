-- Lists in which each key stands once, and what is missing in a table of types.
use Rattle.std.proofs.Common.{◌≡◌, ℕ, suc, ◌+◌, ◌≤◌, Bool, true, false, ◌||◌, cond, List, [], ◌∷◌, ◌++◌, length, map, refl, sym, ap, ◌∙◌, subst, inl, inr, Option, Some, None, arith}
use Rattle.std.specs.Prelude.{is_some, IsSome, filter}
use Rattle.std.specs.Bool.{Decides}
use Rattle.std.specs.List.{AllByRecursion}
use Rattle.std.specs.Map.{lookup}
use Rattle.std.specs.Set.{is_member, unique_keys}
use Rattle.law_terms.specs.Plain.{PlainType}
use Rattle.law_terms.specs.Types.{type_eq}
use Rattle.law_terms.proofs.TermTotal.{types_decided}
use Rattle.law_lines.specs.Entries.{EachEntry}
use Rattle.law_lines.proofs.Grow.{lookup_append}
use Rattle.law_lines.proofs.Known.{each_map}
use Rattle.law_lines.proofs.Making.{lookup_new}
use Rattle.law_theorem.specs.Open.{IsAmong}

-- ---- elements

pub at_among : {A : Type 0} (P : A → Type 0) (x : A) (xs : List A) → AllByRecursion P xs → IsAmong x xs → P x
at_among P x [] a h = absurd h
at_among P x (y ∷ ys) a (inl e) = subst P e a.0
at_among P x (y ∷ ys) a (inr h) = at_among P x ys a.1 h

pub in_map : {A B : Type 0} (g : A → B) (x : A) (xs : List A) → IsAmong x xs → IsAmong (g x) (map g xs)
in_map g x [] h = absurd h
in_map g x (y ∷ ys) (inl e) = inl (ap g e)
in_map g x (y ∷ ys) (inr h) = inr (in_map g x ys h)

pub in_filter : {A : Type 0} (test : A → Bool) (x : A) (xs : List A) → IsAmong x xs → test x ≡ true → IsAmong x (filter test xs)
in_filter test x [] h e = absurd h
in_filter test x (y ∷ ys) (inl q) e = let p : test y ≡ true = ap test q ∙ e in subst (λ b. IsAmong x (cond b (y ∷ filter test ys) (filter test ys))) (sym p) (inl q)
in_filter {A} test x (y ∷ ys) (inr h) e = by (test y) (in_filter test x ys h e)
  where
    by : (b : Bool) → IsAmong x (filter test ys) → IsAmong x (cond b (y ∷ filter test ys) (filter test ys))
    by true k = inr k
    by false k = k

module _ {A : Type 0} (eq : A → A → Bool) (same : (a b : A) → Decides (eq a b) (a ≡ b)) where
  pub member_among : (x : A) (xs : List A) → is_member eq xs x ≡ true → IsAmong x xs
  member_among x [] h = absurd cc
  member_among x (y ∷ ys) h = by (eq x y) refl (member_among x ys) h
    where
      by : (b : Bool) → eq x y ≡ b → (is_member eq ys x ≡ true → IsAmong x ys) → (b || is_member eq ys x) ≡ true → IsAmong x (y ∷ ys)
      by true e again k = inl (sym ((same x y).0 e))
      by false e again k = inr (again k)

  pub among_member : (x : A) (xs : List A) → IsAmong x xs → is_member eq xs x ≡ true
  among_member x [] h = absurd h
  among_member x (y ∷ ys) (inl e) = let q : eq x y ≡ true = (same x y).1 (sym e) in rw q refl
  among_member x (y ∷ ys) (inr h) = by (eq x y) (among_member x ys h)
    where
      by : (b : Bool) → is_member eq ys x ≡ true → (b || is_member eq ys x) ≡ true
      by true k = refl
      by false k = k

  -- What is in a list is still there when what is equal is taken out.
  pub in_unique : (x : A) (xs : List A) → IsAmong x xs → IsAmong x (unique_keys eq xs)
  in_unique x [] h = absurd h
  in_unique x (y ∷ ys) h = by (is_member eq ys y) refl (in_unique x ys) h
    where
      by : (b : Bool) → is_member eq ys y ≡ b → (IsAmong x ys → IsAmong x (unique_keys eq ys)) → IsAmong x (y ∷ ys) → IsAmong x (cond b (unique_keys eq ys) (y ∷ unique_keys eq ys))
      by true e again (inl q) = again (subst (λ z. IsAmong z ys) q (member_among y ys e))
      by true e again (inr k) = again k
      by false e again (inl q) = inl q
      by false e again (inr k) = inr (again k)

-- ---- entries of types

abbrev Entries : Type 0
Entries = List (PlainType × List ℕ)

-- each key of a table is found in it
pub keys_found : (es : Entries) → EachEntry (λ t n. IsSome (lookup (type_eq t) es)) es
keys_found [] = tt
keys_found (e ∷ es) = (
  ap (λ b. is_some (cond b (Some e.1) (lookup (type_eq e.0) es))) ((types_decided e.0 e.0).1 refl),
  each_map (λ t n. IsSome (lookup (type_eq t) es)) (λ t n. IsSome (lookup (type_eq t) (e ∷ es))) (λ t n h. later (type_eq t e.0) (lookup (type_eq t) es) h) es (keys_found es),
)
  where
    later : (b : Bool) (o : Option (List ℕ)) → IsSome o → IsSome (cond b (Some e.1) o)
    later true o h = refl
    later false o h = h

-- how many of the types have no entry
abbrev pub missing : Entries → List PlainType → ℕ
missing es [] = 0
missing es (t ∷ ts) = cond (is_some (lookup (type_eq t) es)) (missing es ts) (suc (missing es ts))

pub missing_at_most : (es : Entries) (ts : List PlainType) → missing es ts ≤ length ts
missing_at_most es [] = omega arith
missing_at_most es (t ∷ ts) = by (is_some (lookup (type_eq t) es)) (missing_at_most es ts)
  where
    by : (b : Bool) → missing es ts ≤ length ts → cond b (missing es ts) (suc (missing es ts)) ≤ suc (length ts)
    by true h = omega arith
    by false h = omega arith

-- an entry more takes none away
entry_found : (es fs : Entries) (t : PlainType) → is_some (lookup (type_eq t) es) ≡ true → is_some (lookup (type_eq t) (es ++ fs)) ≡ true
entry_found es fs t h = by (lookup (type_eq t) es) refl h
  where
    by : (o : Option (List ℕ)) → lookup (type_eq t) es ≡ o → is_some o ≡ true → is_some (lookup (type_eq t) (es ++ fs)) ≡ true
    by (Some n) e k = ap is_some (lookup_append (type_eq t) es fs n e)
    by None e k = absurd cc

choice : (b c : Bool) (k l : ℕ) → (b ≡ true → c ≡ true) → l ≤ k → cond c l (suc l) ≤ cond b k (suc k)
choice true true k l f h = h
choice true false k l f h = absurd (let q : false ≡ true = f refl in cc)
choice false true k l f h = omega arith
choice false false k l f h = omega arith

not_more : (es fs : Entries) (ts : List PlainType) → missing (es ++ fs) ts ≤ missing es ts
not_more es fs [] = omega arith
not_more es fs (t ∷ ts) = choice (is_some (lookup (type_eq t) es)) (is_some (lookup (type_eq t) (es ++ fs))) (missing es ts) (missing (es ++ fs) ts) (entry_found es fs t) (not_more es fs ts)

-- An entry for a type that had none makes one less.
pub one_less : (es : Entries) (t : PlainType) (n : List ℕ) (ts : List PlainType) → IsAmong t ts → lookup (type_eq t) es ≡ None → missing (es ++ (t, n) ∷ []) ts + 1 ≤ missing es ts
one_less es t n [] h e = absurd h
one_less es t n (u ∷ us) (inl q) e =
    let before : is_some (lookup (type_eq u) es) ≡ false = ap (λ v. is_some (lookup (type_eq v) es)) q ∙ ap is_some e in
    let after : is_some (lookup (type_eq u) (es ++ (t, n) ∷ [])) ≡ true = ap (λ v. is_some (lookup (type_eq v) (es ++ (t, n) ∷ []))) q ∙ ap is_some (lookup_new (type_eq t) es t n ((types_decided t t).1 refl) e) in
    by (is_some (lookup (type_eq u) es)) (is_some (lookup (type_eq u) (es ++ (t, n) ∷ []))) (missing es us) (missing (es ++ (t, n) ∷ []) us) before after (not_more es ((t, n) ∷ []) us)
  where
    by : (b c : Bool) (k l : ℕ) → b ≡ false → c ≡ true → l ≤ k → cond c l (suc l) + 1 ≤ cond b k (suc k)
    by true c k l p r h = absurd cc
    by false true k l p r h = omega arith
    by false false k l p r h = absurd cc
one_less es t n (u ∷ us) (inr h) e = by (is_some (lookup (type_eq u) es)) (is_some (lookup (type_eq u) (es ++ (t, n) ∷ []))) (missing es us) (missing (es ++ (t, n) ∷ []) us) (entry_found es ((t, n) ∷ []) u) (one_less es t n us h e)
  where
    by : (b c : Bool) (k l : ℕ) → (b ≡ true → c ≡ true) → l + 1 ≤ k → cond c l (suc l) + 1 ≤ cond b k (suc k)
    by true true k l f h = h
    by true false k l f h = absurd (let q : false ≡ true = f refl in cc)
    by false true k l f h = omega arith
    by false false k l f h = omega arith
