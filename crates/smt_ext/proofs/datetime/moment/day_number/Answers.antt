use Rattle.std.proofs.Common.{◌∙◌, sym, ap, w32, FitsSigned, rules}
use Rattle.std.specs.Option.{is_some}
use Rattle.std.proofs.lemmas.Int.{to_z-of_z}
use Rattle.jiff.specs.Words.{epoch_day}
use Rattle.smt_ext.proofs.Choices.{value_in_ok}
use Rattle.smt_ext.proofs.Datetimes.{real_day, same_day}
use Rattle.smt_ext.proofs.datetime.moment.day_number.Goals as goal

pub returns-clause-real : goal.returns-clause-real
returns-clause-real c =
    real_day c.args.day.year c.args.day.month c.args.day.day c.requires.0 c.requires.1 c.requires.2
    (c.new.ensures.succeeds.0 (sym c.ok.ensures.variant ∙ ap is_some c.in_ok-date.was))

pub returns-clause-number : goal.returns-clause-number
returns-clause-number c =
    let fits : FitsSigned w32 c.to_unix_epoch_day.result = search rules in
    record {
      date = c.in_ok-date.date;
      same_day = same_day c.args.day.year c.args.day.month c.args.day.day c.in_ok-date.date c.requires.0 c.requires.1 c.requires.2 (value_in_ok c.new.result _ c.in_ok-date.date c.in_ok-date.ensures.value c.new.ensures.value);
      number_is = to_z-of_z w32 c.to_unix_epoch_day.result fits ∙ c.to_unix_epoch_day.ensures.value ∙ ap epoch_day c.to_plain.ensures;
    }
