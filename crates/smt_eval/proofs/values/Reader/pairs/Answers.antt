use Rattle.std.proofs.Common.{[], map, option_map, ap, ◌∙◌, subst, sym}
use Rattle.std.proofs.lemmas.List.{map-append}
use Rattle.std.specs.Rc.{rc_str_bytes}
use Rattle.law_assignments.specs.Entries.{pair_of}
use Rattle.smt_term.specs.Tables.{plain_entry}
use Rattle.smt_term.specs.View.{plain_term, plain_type}
use Rattle.smt_term.specs.ExtensionView.{plain_extension_op}
use Rattle.smt_eval.specs.ReaderView.{HasKeys, takes_key}
use Rattle.smt_eval.specs.WrittenView.{plain_pair}
use Rattle.smt_eval.proofs.InputReading.{entry_fault, one_more_entry, passes_on}
use Rattle.smt_eval.proofs.ReadValues.{answer_fault, key_fault, pair_stated, twice_fault}
use Rattle.smt_eval.proofs.values.Reader.pairs.Goals as goal

pub returns-in_err-key : goal.returns-in_err-key
returns-in_err-key c ds reads =
    let name = rc_str_bytes c.args.name.now in
    let argument = plain_type c.args.form.now.arg.now in
    let output = plain_type c.args.form.now.out.now in
    let test = takes_key (option_map plain_extension_op c.args.form.now.selector) in
    let done = map plain_entry c.loop-key.pairs.items in
    passes_on _ c.from_residual.result c.in_err-key.field-0.0 _ _ c.from_residual.ensures.1 (c.in_err-key.ensures ds reads)
    (λ f h. entry_fault (pair_of ds name argument output test) plain_pair [] done c.args.entries.now c.loop-key.key-index c.loop-key-item.result (c.loop-key.invariant.given ds reads) c.loop-key-test.true c.loop-key-item.is f
    (key_fault ds name argument output test done (plain_pair c.loop-key-item.result) f h))

pub returns-in_err-enter_key : goal.returns-in_err-enter_key
returns-in_err-enter_key c ds reads =
    let name = rc_str_bytes c.args.name.now in
    let argument = plain_type c.args.form.now.arg.now in
    let output = plain_type c.args.form.now.out.now in
    let test = takes_key (option_map plain_extension_op c.args.form.now.selector) in
    let done = map plain_entry c.loop-key.pairs.items in
    passes_on _ c.from_residual-in_err-enter_key.result c.in_err-enter_key.field-0.0 _ _ c.from_residual-in_err-enter_key.ensures.1 (c.in_err-enter_key.ensures done c.loop-key.invariant.keys)
    (λ f h. entry_fault (pair_of ds name argument output test) plain_pair [] done c.args.entries.now c.loop-key.key-index c.loop-key-item.result (c.loop-key.invariant.given ds reads) c.loop-key-test.true c.loop-key-item.is f
    (twice_fault ds name argument output test done (plain_pair c.loop-key-item.result) (plain_term c.in_ok-key.key) (c.in_ok-key.ensures ds reads) f h))

pub returns-in_err-value : goal.returns-in_err-value
returns-in_err-value c ds reads =
    let name = rc_str_bytes c.args.name.now in
    let argument = plain_type c.args.form.now.arg.now in
    let output = plain_type c.args.form.now.out.now in
    let test = takes_key (option_map plain_extension_op c.args.form.now.selector) in
    let done = map plain_entry c.loop-key.pairs.items in
    let once = c.in_ok-enter_key.ensures done c.loop-key.invariant.keys in
    passes_on _ c.from_residual-in_err-value.result c.in_err-value.field-0.0 _ _ c.from_residual-in_err-value.ensures.1 (c.in_err-value.ensures ds reads)
    (λ f h. entry_fault (pair_of ds name argument output test) plain_pair [] done c.args.entries.now c.loop-key.key-index c.loop-key-item.result (c.loop-key.invariant.given ds reads) c.loop-key-test.true c.loop-key-item.is f
    (answer_fault ds name argument output test done (plain_pair c.loop-key-item.result) (plain_term c.in_ok-key.key) (c.in_ok-key.ensures ds reads) once.0 once.1 f h))

pub loop-key-preserved : goal.loop-key-preserved
loop-key-preserved c =
    let name = rc_str_bytes c.args.name.now in
    let argument = plain_type c.args.form.now.arg.now in
    let output = plain_type c.args.form.now.out.now in
    let test = takes_key (option_map plain_extension_op c.args.form.now.selector) in
    let done = map plain_entry c.loop-key.pairs.items in
    let once = c.in_ok-enter_key.ensures done c.loop-key.invariant.keys in
    let more = ap (map plain_entry) c.in_ok-push.ensures.items ∙ map-append plain_entry c.loop-key.pairs.items _ in
    record {
      keys = subst (HasKeys c.enter_key.new.keys) (sym more) (once.2 (plain_term c.in_ok-value.value));
      given = λ ds reads. one_more_entry (pair_of ds name argument output test) plain_pair [] done c.args.entries.now c.loop-key.key-index c.loop-key-item.result (c.loop-key.invariant.given ds reads) c.loop-key-test.true c.loop-key-item.is (plain_term c.in_ok-key.key, plain_term c.in_ok-value.value) _
          (pair_stated ds name argument output test done (plain_pair c.loop-key-item.result) (plain_term c.in_ok-key.key) (c.in_ok-key.ensures ds reads) once.0 once.1 (plain_term c.in_ok-value.value) (c.in_ok-value.ensures ds reads)) more;
    }
