use Rattle.std.proofs.Common.{◌≡◌, [], ◌∷◌, Option, Some, None, refl, sym, ap, ◌∙◌}
use Rattle.std.specs.Borrow.{Bor}
use Rattle.std.specs.Prelude.{option_copied, option_map}
use Rattle.std.specs.Rc.{rc_str_bytes}
use Rattle.std.proofs.lemmas.Result.{IfOk-weaker}
use Rattle.smt_bits.specs.BitVec.{number_of}
use Rattle.smt_bits.specs.declared.bitvec.BitVec.{BitVec}
use Rattle.smt_ext.specs.IpOrder.{plain_range}
use Rattle.smt_ext.specs.IpView.{range_of, v4_bits, v4_prefix, v6_bits, v6_prefix}
use Rattle.smt_ext.specs.declared.net.IPNet.{IPNet}
use Rattle.law_scripts.specs.Script.{name}
use Rattle.law_lines.specs.EntryNames.{v4_name, v6_name}
use Rattle.law_lines.specs.LineForms.{extension_body, prefix_body}
use Rattle.law_lines.specs.Lines.{bits}
use Rattle.law_lines.specs.Spelling.{spelled}
use Rattle.smt_spelling.proofs.Bracketed.{bracketed}
use Rattle.smt_spelling.proofs.extension.range_text.Goals as goal

numbers_copied : (o : Option (Bor BitVec)) → option_map (λ b. number_of b.now) o ≡ option_map number_of (option_copied o)
numbers_copied None = refl
numbers_copied (Some b) = refl

pub returns-in_ok-address-in-V4 : goal.returns-in_ok-address-in-V4
returns-in_ok-address-in-V4 c =
    let a = number_of (v4_bits c.in-V4.range.addr) in
    let p = v4_prefix c.in-V4.range.prefix in
    let address : rc_str_bytes c.in_ok-address-in-V4.address ≡ spelled (bits 32 a) =
    c.in_ok-address-in-V4.ensures ∙ (λ i. spelled (bits (c.as_bitvec-in-V4.ensures.width i) (number_of (c.as_bitvec-in-V4.ensures.value i)))) in
    let prefix : rc_str_bytes c.in_ok-prefix-in-V4.prefix ≡ spelled (prefix_body 5 p) =
    c.in_ok-prefix-in-V4.ensures c.as_bitvec.ensures.width ∙ ap (λ o. spelled (prefix_body 5 o)) (numbers_copied c.as_bitvec.result ∙ ap (option_map number_of) c.as_bitvec.ensures.value) in
    IfOk-weaker c.application_text.result _ _
    (λ t e. e ∙ bracketed v4_name (name v4_name) (rc_str_bytes c.in_ok-address-in-V4.address ∷ rc_str_bytes c.in_ok-prefix-in-V4.prefix ∷ []) (bits 32 a ∷ prefix_body 5 p ∷ []) refl (λ i. address i ∷ prefix i ∷ [])
    ∙ ap (λ (r : IPNet). spelled (extension_body (plain_range (range_of r)))) (sym c.in-V4.is))
    c.application_text.ensures

pub returns-in_ok-address-in-V6 : goal.returns-in_ok-address-in-V6
returns-in_ok-address-in-V6 c =
    let a = number_of (v6_bits c.in-V6.range.addr) in
    let p = v6_prefix c.in-V6.range.prefix in
    let address : rc_str_bytes c.in_ok-address-in-V6.address ≡ spelled (bits 128 a) =
    c.in_ok-address-in-V6.ensures ∙ (λ i. spelled (bits (c.as_bitvec-in-V6-2.ensures.width i) (number_of (c.as_bitvec-in-V6-2.ensures.value i)))) in
    let prefix : rc_str_bytes c.in_ok-prefix-in-V6.prefix ≡ spelled (prefix_body 7 p) =
    c.in_ok-prefix-in-V6.ensures c.as_bitvec-in-V6.ensures.width ∙ ap (λ o. spelled (prefix_body 7 o)) (numbers_copied c.as_bitvec-in-V6.result ∙ ap (option_map number_of) c.as_bitvec-in-V6.ensures.value) in
    IfOk-weaker c.application_text-in-V6.result _ _
    (λ t e. e ∙ bracketed v6_name (name v6_name) (rc_str_bytes c.in_ok-address-in-V6.address ∷ rc_str_bytes c.in_ok-prefix-in-V6.prefix ∷ []) (bits 128 a ∷ prefix_body 7 p ∷ []) refl (λ i. address i ∷ prefix i ∷ [])
    ∙ ap (λ (r : IPNet). spelled (extension_body (plain_range (range_of r)))) (sym c.in-V6.is))
    c.application_text-in-V6.ensures
