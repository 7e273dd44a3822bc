-- The enum types that jobs state are in order.
use Rattle.std.proofs.Common.{ℕ, List, []}
use Rattle.std.specs.Prelude.{IfOk, IsUtf8}
use Rattle.std.specs.List.{AllByRecursion}
use Rattle.std.specs.Option.{option_and_then}
use Rattle.std.specs.declared.cmp.Ordering.{Ordering}
use Rattle.std.proofs.lemmas.Cmp.{nat_list_cmp_total, on_total}
use Rattle.law_terms.specs.TypeValues.{AreAscending}
use Rattle.law_terms.specs.ValueOrder.{sorted, text_cmp}
use Rattle.law_terms.proofs.Sorted.{all-sorted, ascends-sorted}
use Rattle.law_texts.specs.Reading.{Expression, Expressions, Nil, Cons}
use Rattle.law_jobs.specs.Outcomes.{FormFault}
use Rattle.law_texts.specs.Outcomes.{demanded}
use Rattle.law_texts.specs.Parts.{first_apart, inside_of, text_in}
use Rattle.law_jobs.specs.Declarations.{Declarations, declared, declared_by, unless_declared}
use Rattle.law_jobs.specs.Enums.{enum_of, enum_written, enums_in, new_enum, texts_in}
use Rattle.law_jobs.specs.Laws.{AreInOrder}
use Rattle.law_jobs.proofs.Outcomes.{bound, if_demanded, if_followed, onward, whichever}
use Rattle.law_jobs.proofs.FormedTypes.{AreFormed, all_formed}
use Rattle.law_jobs.proofs.SoundTerms.{text_utf8}

abbrev AreTexts : List (List ℕ) → Type 0
AreTexts ts = AllByRecursion IsUtf8 ts

abbrev Enum : Type 0
Enum = List ℕ × List (List ℕ)

-- ---- what is written

texts_written : (es : Expressions) → IfOk (texts_in es) AreTexts
texts_written Nil = tt
texts_written (Cons e es) =
    bound AreTexts (demanded FormFault (text_in e)) _ (onward (demanded FormFault (text_in e)) (if_demanded IsUtf8 FormFault (text_in e) (text_utf8 e)) (λ text h.
    if_followed AreTexts text (texts_in es) (onward (texts_in es) (texts_written es) (λ texts g. (h, g)))))

members_written : (e : Expression) → IfOk (enum_written e) (λ p. AreTexts p.1)
members_written e =
    bound _ (demanded FormFault (option_and_then first_apart (inside_of e))) _ (whichever _ (demanded FormFault (option_and_then first_apart (inside_of e))) (λ p.
    bound _ (demanded FormFault (text_in p.0)) _ (whichever _ (demanded FormFault (text_in p.0)) (λ name.
    bound _ (texts_in p.1) _ (onward (texts_in p.1) (texts_written p.1) (λ members h. h))))))

-- ---- what is declared

members_sorted : (ts : List (List ℕ)) → AreTexts ts → AreAscending (sorted text_cmp ts)
members_sorted ts h = record { ascending = ascends-sorted text_cmp nat_list_cmp_total ts; texts = all-sorted text_cmp IsUtf8 ts h }

enum_members : (enums : Declarations (List (List ℕ))) (e : Expression) → IfOk (enum_of enums e) (λ d. AreAscending d.1)
enum_members enums e =
    bound _ (enum_written e) (new_enum enums) (onward (enum_written e) (members_written e) (λ p h.
    bound _ (unless_declared (declared enums p.0) p.0) _ (whichever _ (unless_declared (declared enums p.0) p.0) (λ name. members_sorted p.1 h))))

abbrev by_name : Enum → Enum → Ordering
by_name p q = text_cmp p.0 q.0

sorted_in_order : (ds : Declarations (List (List ℕ))) → AreFormed AreAscending ds → AreInOrder (sorted by_name ds)
sorted_in_order ds h =
    record { names = ascends-sorted by_name (on_total (λ (d : Enum). d.0) nat_list_cmp_total) ds; members = all-sorted by_name (λ (d : Enum). AreAscending d.1) ds h }

pub enums_in_order : (es : Expressions) → IfOk (enums_in es) AreInOrder
enums_in_order es =
    bound AreInOrder (declared_by enum_of [] es) _ (onward (declared_by enum_of [] es) (all_formed AreAscending enum_of enum_members [] es tt) sorted_in_order)
