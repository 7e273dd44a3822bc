-- Whether a literal of an IP range lies in one of a list.
use Rattle.std.proofs.Common.{◌≡◌, ℕ, true, List, [], ◌∷◌, map, Option, refl, ap, ◌∙◌, inl, inr, arith}
use Rattle.std.specs.Prelude.{◌⊎◌, ◌||◌}
use Rattle.std.specs.List.{AllByRecursion}
use Rattle.std.proofs.lemmas.Bool.{or_cases, or_left, or_right}
use Rattle.smt_ext.specs.IpRanges.{Family, LiesIn, Range, Version4, Version6}
use Rattle.smt_ext.specs.IpRanges as ip
use Rattle.law_extensions.specs.Bounds.{IsRange, LiesInOne, range_literal}
use Rattle.law_extensions.specs.ExtensionFunctions.{in_one_from, in_range, in_range_v, is_in_range, is_ipv4, is_ipv6, range_v4, range_v6}
use Rattle.law_extensions.specs.Laws.{ContainmentIsTold, IsTruthOf}
use Rattle.law_extensions.proofs.Choices.{false_and, truth_and, truth_or}
use Rattle.law_extensions.proofs.Containment.{contained_lit, contained_v4, contained_v6, is_one_v4, is_one_v6, never, truth_at, truth_of}
use Rattle.law_folding.specs.Applications.{false_term, true_term, truth_literal}
use Rattle.law_folding.specs.Builder.{folding}
use Rattle.law_terms.specs.Plain.{PlainTerm}

-- a disjunction of two truths
either : {t u : PlainTerm} {P Q : Type 0} → IsTruthOf t P → IsTruthOf u Q → IsTruthOf (folding.or t u) (P ⊎ Q)
either {u = u} v w = record {
  value = v.value || w.value;
  literal = ap (λ x. folding.or x u) v.literal ∙ ap (folding.or (truth_literal v.value)) w.literal ∙ truth_or v.value w.value;
  says = (
    λ h. elim (or_cases v.value w.value h) [ inl x ↦ inl (v.says.0 x) | inr y ↦ inr (w.says.0 y) ],
    λ s. elim s [ inl p ↦ or_left v.value w.value (v.says.1 p) | inr q ↦ or_right v.value w.value (w.says.1 q) ],
  );
}

-- each of a list by a test of its family and a range function, from what came of those in front on
module _ (is_ip : PlainTerm → PlainTerm) (range : PlainTerm → (PlainTerm × PlainTerm)) (r : Range) (each : (t : Range) → IsRange t → IsTruthOf (folding.and (is_ip (range_literal t)) (in_range folding range (range_literal r) (range_literal t))) (LiesIn r t)) where
  in_one : (so_far : PlainTerm) (P : Type 0) (ts : List Range) → AllByRecursion IsRange ts → IsTruthOf so_far P → IsTruthOf (in_one_from folding is_ip range (range_literal r) so_far (map range_literal ts)) (P ⊎ LiesInOne r ts)
  in_one so_far P [] h w = truth_of inl (λ s. elim s [ inl p ↦ p | inr empty ↦ absurd empty ]) w
  in_one so_far P (t ∷ ts) h w =
      truth_of (λ s. elim s [ inl x ↦ elim x [ inl p ↦ inl p | inr lies ↦ inr (inl lies) ] | inr y ↦ inr (inr y) ]) (λ s. elim s [ inl p ↦ inl (inl p) | inr y ↦ elim y [ inl lies ↦ inl (inr lies) | inr z ↦ inr z ] ])
      (in_one (folding.or so_far (folding.and (is_ip (range_literal t)) (in_range folding range (range_literal r) (range_literal t)))) (P ⊎ LiesIn r t) ts h.1 (either w (each t h.0)))

  -- from false
  pub in_list : (ts : List Range) → AllByRecursion IsRange ts → IsTruthOf (in_one_from folding is_ip range (range_literal r) false_term (map range_literal ts)) (LiesInOne r ts)
  in_list ts h = truth_of (λ s. elim s [ inl empty ↦ absurd empty | inr y ↦ y ]) inr (in_one false_term ⊥ ts h (never (λ empty. empty)))

-- of the family and in one of a list
of_family : {t : PlainTerm} {P Q : Type 0} → P → IsTruthOf t Q → IsTruthOf (folding.and true_term t) (P × Q)
of_family p w = truth_of (λ q. (p, q)) (λ s. s.1) (record { value = w.value; literal = ap (folding.and true_term) w.literal ∙ truth_and true w.value; says = w.says })

list_v4 : (f : Family) (a : ℕ) (p : Option ℕ) (ts : List Range) → let r : Range = record { family = f; address = a; prefix = p } in IsRange r → AllByRecursion IsRange ts → IsTruthOf (in_range_v folding (is_ipv4 folding) (range_v4 folding) (range_literal r) (map range_literal ts)) ((f ≡ Version4) × LiesInOne r ts)
list_v4 Version4 a p ts h k =
    let r : Range = record { family = Version4; address = a; prefix = p } in
    of_family refl (in_list (is_ipv4 folding) (range_v4 folding) r (λ t l. is_one_v4 r t h l refl) ts k)
list_v4 Version6 a p ts h k =
    let r : Range = record { family = Version6; address = a; prefix = p } in
    truth_at (false_and (in_one_from folding (is_ipv4 folding) (range_v4 folding) (range_literal r) false_term (map range_literal ts))) (never (λ s. let e = s.0 in cc))

list_v6 : (f : Family) (a : ℕ) (p : Option ℕ) (ts : List Range) → let r : Range = record { family = f; address = a; prefix = p } in IsRange r → AllByRecursion IsRange ts → IsTruthOf (in_range_v folding (is_ipv6 folding) (range_v6 folding) (range_literal r) (map range_literal ts)) ((f ≡ Version6) × LiesInOne r ts)
list_v6 Version6 a p ts h k =
    let r : Range = record { family = Version6; address = a; prefix = p } in
    of_family refl (in_list (is_ipv6 folding) (range_v6 folding) r (λ t l. is_one_v6 r t h l refl) ts k)
list_v6 Version4 a p ts h k =
    let r : Range = record { family = Version4; address = a; prefix = p } in
    truth_at (false_and (in_one_from folding (is_ipv6 folding) (range_v6 folding) (range_literal r) false_term (map range_literal ts))) (never (λ s. let e = s.0 in cc))

-- each range is of one of the two families
one_of_two : (f : Family) → (f ≡ Version4) ⊎ (f ≡ Version6)
one_of_two Version4 = inl refl
one_of_two Version6 = inr refl

in_any : (r : Range) (ts : List Range) → IsRange r → AllByRecursion IsRange ts → IsTruthOf (is_in_range folding (range_literal r) (map range_literal ts)) (LiesInOne r ts)
in_any r ts h k =
    truth_of (λ s. elim s [ inl x ↦ x.1 | inr y ↦ y.1 ]) (λ lies. elim (one_of_two r.family) [ inl e ↦ inl (e, lies) | inr e ↦ inr (e, lies) ])
    (either (list_v4 r.family r.address r.prefix ts h k) (list_v6 r.family r.address r.prefix ts h k))

-- the ranges of the program's tests
is_range_loopback_v4 : IsRange ip.loopback_v4
is_range_loopback_v4 = record { address = omega arith; prefix = omega arith }

is_range_loopback_v6 : IsRange ip.loopback_v6
is_range_loopback_v6 = record { address = omega arith; prefix = tt }

is_range_multicast_v4 : IsRange ip.multicast_v4
is_range_multicast_v4 = record { address = omega arith; prefix = omega arith }

is_range_multicast_v6 : IsRange ip.multicast_v6
is_range_multicast_v6 = record { address = omega arith; prefix = omega arith }

pub containment_is_told : ContainmentIsTold
containment_is_told = record {
  in_range_v4 = contained_v4;
  in_range_v6 = contained_v6;
  in_one_v4 = λ r. list_v4 r.family r.address r.prefix;
  in_one_v6 = λ r. list_v6 r.family r.address r.prefix;
  is_in_range = in_any;
  in_range_lit = contained_lit;
  is_loopback = λ r h. contained_lit r ip.loopback_v4 ip.loopback_v6 h is_range_loopback_v4 is_range_loopback_v6 refl refl;
  is_multicast = λ r h. contained_lit r ip.multicast_v4 ip.multicast_v6 h is_range_multicast_v4 is_range_multicast_v6 refl refl;
}
