-- Internal: a reply by its two parts.
use Rattle.counts.specs.declared.Counts.{Counts}
use Rattle.answers.specs.declared.Reply.{Reply}
use Rattle.answers.specs.Outcome.{Answer}

abbrev pub reply_of : Answer → Counts → Reply
reply_of a c = record { answer = a; counts = c }
