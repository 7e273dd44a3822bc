use Rattle.std.proofs.Common.{◌≡◌, ℕ, zero, suc, ◌+◌, true, cond, List, [], ◌∷◌, Option, Some, None, refl, sym, ap, ◌∙◌, arith}
use Rattle.std.specs.Prelude.{codes, ◌⊎◌, nat_eq}
use Rattle.std.proofs.Math.Logic.{inl, inr}
use Rattle.std.proofs.lemmas.List.{append_cancel_left}
use Rattle.law_terms.specs.Plain.{PlainType, OptionType, BitVecType, BoolType, EntityType, ExtensionType, StringType, RecordType, SetType, PlainTerm, ExtensionKind, IpAddrKind, DecimalKind, DatetimeKind, DurationKind}
use Rattle.law_terms.specs.TypeValues.{Enums}
use Rattle.law_lines.specs.Naming.{HasEntry}
use Rattle.law_lines.specs.Spelling.{numeral}
use Rattle.law_lines.specs.EntryNames.{kind_name, stated_term_name, stated_type_name, stated_function_name}
use Rattle.law_lines.specs.Entries.{AreNumbered}
use Rattle.law_lines.specs.TableGrowth.{is_drawn, AreDrawn, FunctionNamesDiffer, TypeNamesDiffer, TermNamesDiffer}
use Rattle.law_scripts.proofs.Numerals.{numerals_differ}

-- the key at a place
key_at : {K : Type 0} → List (K × List ℕ) → ℕ → Option K
key_at [] i = None
key_at (e ∷ es) zero = Some e.0
key_at (e ∷ es) (suc i) = key_at es i

Some_same : {K : Type 0} {k l : K} → Some k ≡ Some l → k ≡ l
Some_same h = cc

-- an entry stands at a place, by which it is named
found : {K : Type 0} (f : K → ℕ → List ℕ) (start : ℕ) (es : List (K × List ℕ)) (k : K) (n : List ℕ)
    → AreNumbered f start es → HasEntry es k n → (i : ℕ) × (n ≡ f k (start + i)) × (key_at es i ≡ Some k)
unfolding key_at
found f start [] k n h p = absurd p
found f start (e ∷ es) k n h (inl p) = (0, sym p.1 ∙ h.0 ∙ ap (λ l. f l start) p.0 ∙ ap (f k) (omega arith), ap Some p.0)
found f start (e ∷ es) k n h (inr p) =
    let r = found f (suc start) es k n h.1 p in
    let z : suc start + r.0 ≡ start + suc r.0 = omega arith in
    (suc r.0, r.1 ∙ ap (f k) z, r.2)

found_drawn : (enums : Enums) (start : ℕ) (es : List (PlainTerm × List ℕ)) (t : PlainTerm) (n : List ℕ)
    → is_drawn enums t ≡ true → AreDrawn enums start es → HasEntry es t n → (i : ℕ) × (n ≡ stated_term_name (start + i)) × (key_at es i ≡ Some t)
unfolding key_at
found_drawn enums start [] t n d h p = absurd p
found_drawn enums start (e ∷ es) t n d h (inl p) =
    let z : start ≡ start + 0 = omega arith in
    (0, sym p.1 ∙ h.0 (ap (is_drawn enums) p.0 ∙ d) ∙ ap stated_term_name z, ap Some p.0)
found_drawn enums start (e ∷ es) t n d h (inr p) =
    let r = found_drawn enums (suc start) es t n d h.1 p in
    let z : suc start + r.0 ≡ start + suc r.0 = omega arith in
    (suc r.0, r.1 ∙ ap stated_term_name z, r.2)

-- the same place, the same key
at_one_place : {K : Type 0} (es : List (K × List ℕ)) (i j : ℕ) (k l : K) → i ≡ j → key_at es i ≡ Some k → key_at es j ≡ Some l → k ≡ l
at_one_place es i j k l e p q = Some_same (sym p ∙ ap (key_at es) e ∙ q)

pub functions_differ : FunctionNamesDiffer
functions_differ es h n k l p q =
    let a = found (λ f place. stated_function_name place) 0 es k n h p in
    let b = found (λ f place. stated_function_name place) 0 es l n h q in
    let e = numerals_differ (0 + a.0) (0 + b.0) (append_cancel_left (codes "f") (numeral (0 + a.0)) (numeral (0 + b.0)) (sym a.1 ∙ b.1)) in
    at_one_place es a.0 b.0 k l (omega arith) a.2 b.2

pub terms_differ : TermNamesDiffer
terms_differ enums es h n t u d e p q =
    let a = found_drawn enums 0 es t n d h p in
    let b = found_drawn enums 0 es u n e h q in
    let f = numerals_differ (0 + a.0) (0 + b.0) (append_cancel_left (codes "t") (numeral (0 + a.0)) (numeral (0 + b.0)) (sym a.1 ∙ b.1)) in
    at_one_place es a.0 b.0 t u (omega arith) a.2 b.2

-- ---- types

first : List ℕ → ℕ
first [] = 0
first (c ∷ cs) = c

rest : List ℕ → List ℕ
rest [] = []
rest (c ∷ cs) = cs

kind_from : ℕ → ExtensionKind
kind_from c = cond (nat_eq c 80) IpAddrKind (cond (nat_eq c 101) DecimalKind (cond (nat_eq c 97) DatetimeKind DurationKind))

kind_again : (k : ExtensionKind) → kind_from (first (rest (kind_name k))) ≡ k
unfolding kind_from first rest
kind_again IpAddrKind = refl
kind_again DecimalKind = refl
kind_again DatetimeKind = refl
kind_again DurationKind = refl

kind_first : (k : ExtensionKind) → (first (kind_name k) ≡ 73) ⊎ (first (kind_name k) ≡ 68)
unfolding first
kind_first IpAddrKind = inl refl
kind_first DecimalKind = inr refl
kind_first DatetimeKind = inr refl
kind_first DurationKind = inr refl

record OfKind (t : PlainType) (name : List ℕ) : Type 0 where
  kind : ExtensionKind
  is : t ≡ ExtensionType kind
  named : name ≡ kind_name kind

record OfPlace (place : ℕ) (name : List ℕ) : Type 0 where
  letter : (first name ≡ 69) ⊎ (first name ≡ 82)
  number : rest name ≡ numeral place

shape : (t : PlainType) (place : ℕ) → OfKind t (stated_type_name t place) ⊎ OfPlace place (stated_type_name t place)
unfolding first rest
shape (OptionType t) place = inr (record { letter = inl refl; number = refl })
shape (BitVecType width) place = inr (record { letter = inl refl; number = refl })
shape BoolType place = inr (record { letter = inl refl; number = refl })
shape (EntityType type) place = inr (record { letter = inl refl; number = refl })
shape (ExtensionType kind) place = inl (record { kind = kind; is = refl; named = refl })
shape StringType place = inr (record { letter = inl refl; number = refl })
shape (RecordType _) place = inr (record { letter = inr refl; number = refl })
shape (SetType t) place = inr (record { letter = inl refl; number = refl })

kinds_apart : (k : ExtensionKind) (c : ℕ) → (first (kind_name k) ≡ c) → (c ≡ 69) ⊎ (c ≡ 82) → ⊥
kinds_apart k c e h = go (kind_first k) h
  where
    go : (first (kind_name k) ≡ 73) ⊎ (first (kind_name k) ≡ 68) → (c ≡ 69) ⊎ (c ≡ 82) → ⊥
    go (inl p) (inl q) = omega arith
    go (inl p) (inr q) = omega arith
    go (inr p) (inl q) = omega arith
    go (inr p) (inr q) = omega arith

pub types_differ : TypeNamesDiffer
types_differ es h n k l p q =
    let a = found stated_type_name 0 es k n h p in
    let b = found stated_type_name 0 es l n h q in
    go a.0 b.0 a.2 b.2 (sym a.1 ∙ b.1) (shape k (0 + a.0)) (shape l (0 + b.0))
  where
    go : (i j : ℕ) → key_at es i ≡ Some k → key_at es j ≡ Some l → stated_type_name k (0 + i) ≡ stated_type_name l (0 + j)
        → OfKind k (stated_type_name k (0 + i)) ⊎ OfPlace (0 + i) (stated_type_name k (0 + i))
        → OfKind l (stated_type_name l (0 + j)) ⊎ OfPlace (0 + j) (stated_type_name l (0 + j)) → k ≡ l
    go i j x y e (inl u) (inl v) =
        u.is ∙ ap ExtensionType (sym (kind_again u.kind) ∙ ap (λ m. kind_from (first (rest m))) (sym u.named ∙ e ∙ v.named) ∙ kind_again v.kind) ∙ sym v.is
    go i j x y e (inl u) (inr v) = absurd (kinds_apart u.kind _ (ap first (sym u.named ∙ e)) v.letter)
    go i j x y e (inr u) (inl v) = absurd (kinds_apart v.kind _ (ap first (sym v.named ∙ sym e)) u.letter)
    go i j x y e (inr u) (inr v) =
        let f = numerals_differ (0 + i) (0 + j) (sym u.number ∙ ap rest e ∙ v.number) in
        at_one_place es i j k l (omega arith) x y
