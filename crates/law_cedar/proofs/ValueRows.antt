-- Worked examples of what values mean and of which types they are: by computation.
use Rattle.std.proofs.Common.{◌≡◌, ℕ, true, false, List, [], ◌∷◌, refl}
use Rattle.std.specs.Prelude.{Contains, bytes_eq, codes}
use Rattle.std.specs.Str.{chars}
use Rattle.std.proofs.lemmas.List.Elements.{All-contains, All-from_recursion, Contains-push, Contains-append_left, Contains-append_right}
use Rattle.law_cedar.specs.ValueRows.{MeaningExamples, OrderExamples, RefusalExamples, TypingExamples}

pub meaning_examples : MeaningExamples
unfolding chars
meaning_examples = record { truth = refl; below_zero = refl; text = refl; entity = refl; extension = refl; elements = refl; empty = refl; there = refl; absent = refl; inner = refl; no_extension = refl; no_set_type = refl; no_record_type = refl; missing = refl }

-- a list of one has its element and no other
sole : (x : List ℕ) → Contains (x ∷ []) x
sole x = Contains-push [] x

same_bytes : (x y : List ℕ) → Contains (x ∷ []) y → bytes_eq x x ≡ bytes_eq x y
same_bytes x y h = All-contains (λ z. bytes_eq x x ≡ bytes_eq x z) (x ∷ []) y (All-from_recursion (λ z. bytes_eq x x ≡ bytes_eq x z) (x ∷ []) (refl, tt)) h

first_of_two : (x y : List ℕ) → Contains (x ∷ y ∷ []) x
first_of_two x y = Contains-append_left (x ∷ []) (y ∷ []) x (sole x)

second_of_two : (x y : List ℕ) → Contains (x ∷ y ∷ []) y
second_of_two x y = Contains-append_right (x ∷ []) (y ∷ []) y (sole y)

pub typing_examples : TypingExamples
typing_examples = record {
  truth = tt;
  one_truth = refl;
  below_zero = tt;
  text = tt;
  entity = sole (codes "User");
  any_entity = tt;
  extension = refl;
  spaced = refl;
  elements = (tt, (tt, (tt, tt)));
  empty = tt;
  empty_of_never = tt;
  there = ((tt, (tt, tt)), (first_of_two (codes "a") (codes "b"), (second_of_two (codes "a") (codes "b"), tt)));
  absent = ((refl, (tt, tt)), (second_of_two (codes "a") (codes "b"), tt));
  others = (tt, tt);
}

pub refusal_examples : RefusalExamples
refusal_examples = record {
  never = λ h. h;
  other_truth = λ h. cc;
  no_long = λ h. h;
  other_entity = λ h. (let e : true ≡ false = same_bytes (codes "Team") (codes "User") h in cc);
  other_extension = λ h. cc;
  no_extension = λ h. h;
  other_element = λ h. h.1.0;
  not_empty = λ h. h;
  missing = λ h. (let e = h.0.1.0 in cc);
  other_attribute = λ h. h.0.1.0;
  other_name = λ h. (let e : true ≡ false = same_bytes (codes "a") (codes "b") h.1.1.0 in cc);
}

pub order_examples : OrderExamples
order_examples = record { ascend = (refl, (tt, (tt, tt))); turned_around = λ h. (let e = h.0 in cc) }
