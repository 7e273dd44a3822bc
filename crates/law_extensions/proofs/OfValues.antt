-- What the functions answer in an interpretation: what they are folded to at the literals of their arguments' values.
use Rattle.std.proofs.Common.{◌≡◌, ℕ, List, [], ◌∷◌, map, Option, refl, ap, ◌∙◌, sym, subst, arith}
use Rattle.std.specs.Prelude.{ℤ, ◌+ℤ◌, ◌-ℤ◌}
use Rattle.std.specs.List.{AllByRecursion, AllZip}
use Rattle.smt_ext.specs.IpRanges.{Family, Range, Version4, Version6}
use Rattle.smt_ext.specs.Milliseconds.{day_start}
use Rattle.law_extensions.specs.Bounds.{IsRange, range_literal}
use Rattle.smt_ext.specs.IpOrder.{plain_range}
use Rattle.law_extensions.specs.ExtensionFunctions.{duration_since, is_in_range, is_loopback, is_multicast, loopback_v4, loopback_v6, multicast_v4, multicast_v6, offset, to_date, to_time}
use Rattle.law_extensions.specs.Laws.{IsSomeWhereLong, IsTruthOf}
use Rattle.law_extensions.specs.Literals.{datetime, duration}
use Rattle.law_extensions.specs.Values.{ContainmentHasValues, HasDatetime, HasDuration, HasRange, HasValue, IsSomeIn, Tells, TimesHaveValues}
use Rattle.law_extensions.proofs.Alike.{Alike, literal}
use Rattle.law_extensions.proofs.Days.{datetimes_are_split}
use Rattle.law_extensions.proofs.FunctionsAlike.{date_alike, datetime_alike, duration_alike, in_any_alike, in_literal_alike, offset_alike, since_alike, time_alike}
use Rattle.law_extensions.proofs.FunctionsStand.{functions_stand}
use Rattle.law_extensions.proofs.InLists.{containment_is_told}
use Rattle.law_extensions.proofs.Moments.{datetimes_are_moved}
use Rattle.law_folding.specs.Builder.{applied}
use Rattle.law_folding.specs.FoldExtensions.{extension_literal}
use Rattle.law_folding.specs.Refinement.{Refines}
use Rattle.law_folding.proofs.Standing.{valued}
use Rattle.law_terms.specs.Formed.{IsFormedExtension}
use Rattle.law_terms.specs.Interpretations.{IsGiven, IsInterpretation}
use Rattle.law_terms.specs.Meaning.{term_value}
use Rattle.law_terms.specs.Plain.{BoolType, DatetimeKind, DatetimeOf, DurationKind, DurationOf, ExtensionKind, ExtensionLiteral, ExtensionType, IpAddrKind, OptionType, PlainExtension, PlainTerm, PlainType}
use Rattle.law_terms.specs.Reached.{subterms}
use Rattle.law_terms.specs.Tables.{Interpretation}
use Rattle.law_terms.specs.Types.{kind_of}
use Rattle.law_terms.specs.TypeValues.{Enums}
use Rattle.law_terms.specs.Values.{NoneValue}
use Rattle.law_terms.proofs.Defaults.{all-join}
use Rattle.law_terms.proofs.Soundness.{all-front}

module _ (enums : Enums) (I : Interpretation) where
  -- the literal of a term's value
  at_value : (k : ExtensionKind) (x : PlainExtension) (t : PlainTerm) → kind_of x ≡ k → IsFormedExtension x → HasValue I k t x → Alike enums I (ExtensionType k) (extension_literal x) t
  at_value k x t e f h = record {
    typed_first = refl;
    typed_second = h.typed.parts;
    type_first = ap ExtensionType e;
    type_second = h.typed.type;
    formed_first = record { literals = (f, tt); types = ((tt, tt), tt) };
    formed_second = h.formed;
    given = λ g. (tt, tt);
    value = sym h.value ∙ valued I t h.typed.parts;
  }

  range_kind : (f : Family) (a : ℕ) (p : Option ℕ) → kind_of (plain_range (record { family = f; address = a; prefix = p })) ≡ IpAddrKind
  range_kind Version4 a p = refl
  range_kind Version6 a p = refl

  range_formed : (f : Family) (a : ℕ) (p : Option ℕ) → IsRange (record { family = f; address = a; prefix = p }) → IsFormedExtension (plain_range (record { family = f; address = a; prefix = p }))
  range_formed Version4 a p h = (h.address, h.prefix)
  range_formed Version6 a p h = (h.address, h.prefix)

  pub at_range : (r : Range) (t : PlainTerm) → HasRange I t r → Alike enums I (ExtensionType IpAddrKind) (range_literal r) t
  at_range r t h = at_value IpAddrKind (plain_range r) t (range_kind r.family r.address r.prefix) (range_formed r.family r.address r.prefix h.fits) h.range

  at_ranges : (ts : List PlainTerm) (rs : List Range) → AllZip (HasRange I) ts rs → AllZip (Alike enums I (ExtensionType IpAddrKind)) (map range_literal rs) ts
  at_ranges [] [] z = tt
  at_ranges (t ∷ ts) (r ∷ rs) z = (at_range r t z.0, at_ranges ts rs z.1)
  at_ranges [] (r ∷ rs) z = elim z [ ]
  at_ranges (t ∷ ts) [] z = elim z [ ]

  ranges_fit : (ts : List PlainTerm) (rs : List Range) → AllZip (HasRange I) ts rs → AllByRecursion IsRange rs
  ranges_fit [] [] z = tt
  ranges_fit (t ∷ ts) (r ∷ rs) z = (z.0.fits, ranges_fit ts rs z.1)
  ranges_fit [] (r ∷ rs) z = elim z [ ]
  ranges_fit (t ∷ ts) [] z = elim z [ ]

  -- the value of a term is that of what the other is folded to
  pub answered : {ty : PlainType} {u t v : PlainTerm} → Alike enums I ty u t → Refines v u → IsInterpretation enums (t ∷ []) I → term_value I t ≡ term_value I v
  answered {ty} {u} {t} {v} a s i =
      let g : IsInterpretation enums (u ∷ []) I = all-join (IsGiven enums I) (subterms u) [] (a.given (all-front (IsGiven enums I) (subterms t) [] i)) tt in
      valued I t a.typed_second ∙ sym a.value ∙ sym (valued I u a.typed_first) ∙ sym (s.value ty enums I a.formed_first (record { parts = a.typed_first; type = a.type_first }) g)

  told : {u t v : PlainTerm} {ty : PlainType} {P : Type 0} → Alike enums I ty u t → Refines v u → IsInterpretation enums (t ∷ []) I → IsTruthOf v P → Tells I t P
  told a s i w = record { truth = w.value; value = answered a s i ∙ ap (term_value I) w.literal; says = w.says }

  some_in : {u t v : PlainTerm} {ty : PlainType} (z : ℤ) (valued_by : ℤ → PlainExtension) (none : PlainTerm) → term_value I none ≡ NoneValue → Alike enums I ty u t → Refines v u → IsInterpretation enums (t ∷ []) I → IsSomeWhereLong v z (λ x. extension_literal (valued_by x)) none → IsSomeIn I t z valued_by
  some_in z valued_by none e a s i w = record { some = λ h. answered a s i ∙ ap (term_value I) (w.some h); none = λ h. answered a s i ∙ ap (term_value I) (w.none h) ∙ e }

  at_datetime : (z : ℤ) (t : PlainTerm) → HasDatetime I t z → Alike enums I (ExtensionType DatetimeKind) (datetime z) t
  at_datetime z t h = at_value DatetimeKind (DatetimeOf z) t refl h.fits h.datetime

  at_duration : (z : ℤ) (t : PlainTerm) → HasDuration I t z → Alike enums I (ExtensionType DurationKind) (duration z) t
  at_duration z t h = at_value DurationKind (DurationOf z) t refl h.fits h.duration

  -- a literal beside itself
  block : (x : PlainExtension) → kind_of x ≡ IpAddrKind → IsFormedExtension x → Alike enums I (ExtensionType IpAddrKind) (extension_literal x) (extension_literal x)
  block x e f = subst (λ (k : ExtensionKind). Alike enums I (ExtensionType k) (extension_literal x) (extension_literal x)) e (literal enums I (ExtensionLiteral x) f (tt, tt))

  -- ---- each application, at literals of the values and at the terms

  pub in_range_at_values : (t : PlainTerm) (ts : List PlainTerm) (r : Range) (rs : List Range) → HasRange I t r → AllZip (HasRange I) ts rs → Alike enums I BoolType (is_in_range applied (range_literal r) (map range_literal rs)) (is_in_range applied t ts)
  in_range_at_values t ts r rs h z = in_any_alike enums I (map range_literal rs) ts (at_range r t h) (at_ranges ts rs z)

  pub loopback_at_values : (t : PlainTerm) (r : Range) → HasRange I t r → Alike enums I BoolType (is_loopback applied (range_literal r)) (is_loopback applied t)
  loopback_at_values t r h = in_literal_alike enums I loopback_v4 loopback_v6 (block loopback_v4 refl (omega arith, omega arith)) (block loopback_v6 refl (omega arith, tt)) (at_range r t h)

  pub multicast_at_values : (t : PlainTerm) (r : Range) → HasRange I t r → Alike enums I BoolType (is_multicast applied (range_literal r)) (is_multicast applied t)
  multicast_at_values t r h = in_literal_alike enums I multicast_v4 multicast_v6 (block multicast_v4 refl (omega arith, omega arith)) (block multicast_v6 refl (omega arith, omega arith)) (at_range r t h)

  pub offset_at_values : (t u : PlainTerm) (z w : ℤ) → HasDatetime I t z → HasDuration I u w → Alike enums I (OptionType (ExtensionType DatetimeKind)) (offset applied (datetime z) (duration w)) (offset applied t u)
  offset_at_values t u z w h k = offset_alike enums I (datetime_alike enums I (at_datetime z t h)) (duration_alike enums I (at_duration w u k))

  pub since_at_values : (t u : PlainTerm) (z w : ℤ) → HasDatetime I t z → HasDatetime I u w → Alike enums I (OptionType (ExtensionType DurationKind)) (duration_since applied (datetime z) (datetime w)) (duration_since applied t u)
  since_at_values t u z w h k = since_alike enums I (datetime_alike enums I (at_datetime z t h)) (datetime_alike enums I (at_datetime w u k))

  pub date_at_value : (t : PlainTerm) (z : ℤ) → HasDatetime I t z → Alike enums I (OptionType (ExtensionType DatetimeKind)) (to_date applied (datetime z)) (to_date applied t)
  date_at_value t z h = date_alike enums I (at_datetime z t h)

  pub time_at_value : (t : PlainTerm) (z : ℤ) → HasDatetime I t z → Alike enums I (ExtensionType DurationKind) (to_time applied (datetime z)) (to_time applied t)
  time_at_value t z h = time_alike enums I (at_datetime z t h)

pub containment_has_values : ContainmentHasValues
containment_has_values = record {
  is_in_range = λ enums I t ts r rs h z i. told enums I (in_range_at_values enums I t ts r rs h z) (functions_stand.is_in_range (range_literal r) (map range_literal rs)) i (containment_is_told.is_in_range r rs h.fits (ranges_fit enums I ts rs z));
  is_loopback = λ enums I t r h i. told enums I (loopback_at_values enums I t r h) (functions_stand.is_loopback (range_literal r)) i (containment_is_told.is_loopback r h.fits);
  is_multicast = λ enums I t r h i. told enums I (multicast_at_values enums I t r h) (functions_stand.is_multicast (range_literal r)) i (containment_is_told.is_multicast r h.fits);
}

pub times_have_values : TimesHaveValues
times_have_values = record {
  offset = λ enums I t u z w h k i. some_in enums I (z +ℤ w) DatetimeOf _ refl (offset_at_values enums I t u z w h k) (functions_stand.offset (datetime z) (duration w)) i (datetimes_are_moved.offset z w h.fits k.fits);
  duration_since = λ enums I t u z w h k i. some_in enums I (z -ℤ w) DurationOf _ refl (since_at_values enums I t u z w h k) (functions_stand.duration_since (datetime z) (datetime w)) i (datetimes_are_moved.duration_since z w h.fits k.fits);
  to_date = λ enums I t z h i. some_in enums I (day_start z) DatetimeOf _ refl (date_at_value enums I t z h) (functions_stand.to_date (datetime z)) i (datetimes_are_split.date z h.fits);
  to_time = λ enums I t z h i. answered enums I (time_at_value enums I t z h) (functions_stand.to_time (datetime z)) i ∙ ap (term_value I) (datetimes_are_split.time z h.fits);
}
