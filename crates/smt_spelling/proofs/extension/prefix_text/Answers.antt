use Rattle.std.proofs.Common.{◌≡◌, [], ◌∷◌, Option, sym, subst, ap, ◌∙◌}
use Rattle.std.specs.Borrow.{Bor}
use Rattle.std.specs.Prelude.{IfSome, option_map}
use Rattle.std.specs.Rc.{rc_str_bytes}
use Rattle.std.proofs.lemmas.Result.{IfOk-weaker}
use Rattle.smt_bits.specs.BitVec.{number_of, width_of}
use Rattle.smt_bits.specs.Width.{bits_in}
use Rattle.smt_bits.specs.declared.bitvec.BitVec.{BitVec}
use Rattle.law_scripts.specs.Sorts.{bit_sort, option_sort}
use Rattle.law_lines.specs.LineForms.{prefix_body}
use Rattle.law_lines.specs.Lines.{bits}
use Rattle.law_lines.specs.Spelling.{spelled}
use Rattle.smt_spelling.proofs.extension.prefix_text.Goals as goal

pub returns-in_ok-some_text-in-Some : goal.returns-in_ok-some_text-in-Some
returns-in_ok-some_text-in-Some c fits =
    let n = bits_in c.args.width in
    let number = number_of c.in-Some.bits.now in
    let width : width_of c.in-Some.bits.now ≡ n = subst (λ (o : Option (Bor BitVec)). IfSome o (λ b. width_of b.now ≡ n)) c.in-Some.is fits in
    let literal : rc_str_bytes c.in_ok-literal-in-Some.literal ≡ spelled (bits n number) = c.in_ok-literal-in-Some.ensures ∙ ap (λ w. spelled (bits w number)) width in
    let some = c.in_ok-some_text-in-Some.ensures (bits n number ∷ []) (ap (λ t. t ∷ []) literal) in
    IfOk-weaker c.from_string.result _ _ (λ t e. e ∙ some ∙ ap (λ (o : Option (Bor BitVec)). spelled (prefix_body n (option_map (λ b. number_of b.now) o))) (sym c.in-Some.is)) c.from_string.ensures.ok

pub returns-in_ok-as_text-in-None : goal.returns-in_ok-as_text-in-None
returns-in_ok-as_text-in-None c fits =
    let n = bits_in c.args.width in
    let sort = c.in_ok-sort-in-None.ensures (bit_sort n) c.in_ok-bits_sort-in-None.ensures in
    let none = c.in_ok-as_text-in-None.ensures (option_sort (bit_sort n)) (c.as_str.ensures.value ∙ sort) in
    IfOk-weaker c.from_string-in-None.result _ _ (λ t e. e ∙ none ∙ ap (λ (o : Option (Bor BitVec)). spelled (prefix_body n (option_map (λ b. number_of b.now) o))) (sym c.in-None.is)) c.from_string-in-None.ensures.ok
