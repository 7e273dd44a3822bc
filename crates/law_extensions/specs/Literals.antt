-- Literals of the extension types.
use Rattle.std.specs.Prelude.{ℕ, ℤ, Option}
use Rattle.law_folding.specs.FoldExtensions.{extension_literal}
use Rattle.law_terms.specs.Plain.{DatetimeKind, DatetimeOf, DecimalOf, DurationKind, DurationOf, ExtensionType, Ipv4Of, Ipv6Of, NoneTerm}
use Rattle.law_terms.specs.Plain.{PlainTerm}

-- the literal of a decimal, by its number of ten-thousandths
abbrev pub decimal : ℤ → PlainTerm
decimal z = extension_literal (DecimalOf z)

-- the literal of a datetime, by its number of milliseconds since 1970-01-01T00:00:00Z
abbrev pub datetime : ℤ → PlainTerm
datetime z = extension_literal (DatetimeOf z)

-- the literal of a duration, by its number of milliseconds
abbrev pub duration : ℤ → PlainTerm
duration z = extension_literal (DurationOf z)

-- no datetime: none, of the options of datetimes
abbrev pub no_datetime : PlainTerm
no_datetime = NoneTerm (ExtensionType DatetimeKind)

-- no duration: none, of the options of durations
abbrev pub no_duration : PlainTerm
no_duration = NoneTerm (ExtensionType DurationKind)

-- the literal of an IP range of version 4, by its address and its prefix
abbrev pub ipv4 : ℕ → Option ℕ → PlainTerm
ipv4 a p = extension_literal (Ipv4Of a p)

-- the literal of an IP range of version 6, by its address and its prefix
abbrev pub ipv6 : ℕ → Option ℕ → PlainTerm
ipv6 a p = extension_literal (Ipv6Of a p)
