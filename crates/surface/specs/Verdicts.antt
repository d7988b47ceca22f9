-- How Judge's answer is laid out in the struct that crosses to C: a number 0 and an accepted
-- interchange's ten values, or a refusal's number and place. Assumes nothing.
use Rattle.std.specs.Prelude.{ℕ, get_or, eqb, if◌then◌else◌}
use Rattle.answers.specs.Answers.{Answer}
use Rattle.surface.specs.declared.Verdict.{Verdict}

-- the answer's value at a number, from 0
unfoldable pub value : ℕ → Answer → ℕ
value k a = get_or a.values k 0

unfoldable pub accepted_verdict : Answer → Verdict
accepted_verdict a =
    record {
      number = 0;
      segments = value 6 a;
      messages = value 7 a;
      groups = value 8 a;
      place = 0;
      length = value 9 a;
      component = value 0 a;
      element = value 1 a;
      mark = value 2 a;
      release = value 3 a;
      repetition = value 4 a;
      terminator = value 5 a;
    }

unfoldable pub refused_verdict : Answer → Verdict
refused_verdict a =
    record {
      number = a.number;
      segments = 0;
      messages = 0;
      groups = 0;
      place = value 0 a;
      length = 0;
      component = 0;
      element = 0;
      mark = 0;
      release = 0;
      repetition = 0;
      terminator = 0;
    }

-- what Judge's answer is in a struct
unfoldable pub verdict_of : Answer → Verdict
verdict_of a = if eqb a.number 0 then accepted_verdict a else refused_verdict a
