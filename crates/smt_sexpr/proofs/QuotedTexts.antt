-- What quoting gives is read as the string that was quoted.
use Rattle.std.proofs.Common.{◌≡◌, ℕ, true, List, [], ◌∷◌, refl, sym, subst}
use Rattle.std.specs.List.{list_all}
use Rattle.std.proofs.Math.Utf8.{scalars}
use Rattle.std.proofs.lemmas.Bool.{and_from}
use Rattle.law_texts.specs.Characters.{is_code_point}
use Rattle.law_texts.specs.Quoting.{quoted}
use Rattle.law_texts.specs.Lexicon.{Text}
use Rattle.law_texts.specs.Reading.{Expression, Leaf, Reads}
use Rattle.law_texts.specs.Tokens.{IsRead}
use Rattle.law_texts.proofs.QuotedTexts.{quoted_texts_are_read}
use Rattle.law_texts.proofs.Trees.{one_reading}

pub quoted_read : (cs bytes : List ℕ) → bytes ≡ quoted cs → true ≡ list_all is_code_point cs → scalars cs ≡ true → IsRead bytes (Leaf (Text cs))
quoted_read cs bytes e h s = record {
  reads = subst (λ v. Reads v (Leaf (Text cs) ∷ [])) (sym e) (quoted_texts_are_read cs (sym h));
  held = and_from (scalars cs) true s refl;
}

first_is : (a b : Expression) → a ∷ [] ≡ b ∷ [] → a ≡ b
first_is a b e = cc

pub quoted_same : (cs bytes : List ℕ) (e : Expression) → bytes ≡ quoted cs → true ≡ list_all is_code_point cs → scalars cs ≡ true → IsRead bytes e → e ≡ Leaf (Text cs)
quoted_same cs bytes e q h s r = first_is e (Leaf (Text cs)) (one_reading bytes (e ∷ []) (Leaf (Text cs) ∷ []) r.reads (quoted_read cs bytes q h s).reads)
