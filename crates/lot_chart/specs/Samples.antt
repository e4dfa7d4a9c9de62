-- A small run, and its curves as a table and as a picture, worked out by hand.
use Rattle.std.specs.Prelude.{ℕ, ◌*◌, ◌==◌, None, List, [], ◌∷◌, codes, map, if◌then◌else◌}
use Rattle.std.specs.List.{range_with_len}
use Rattle.lot_curves.specs.declared.by.By.TheVariants.{Thread}
use Rattle.lot_curves.specs.Curves.{Curves, curves_of}
use Rattle.lot_simulation.specs.Samples.{text}
use Rattle.lot_simulation.specs.WorkedSystems.{first_run}
use Rattle.lot_simulation.specs.TimedReport.{tick_parts}
use Rattle.lot_simulation.specs.World.{Program}
use Rattle.lot_chart.specs.declared.standings.Standing.{Standing}
use Rattle.lot_chart.specs.Dues.{Dues}

-- the first run with a quantum of one tick: thread a wins at ticks 0 and 1, and thread b at tick 2
abbrev pub three_ticks : Program
three_ticks = record first_run {
  limits = record first_run.limits { quantum = 1 };
  schedule = 0 ∷ 0 ∷ 0 ∷ 0 ∷ 0 ∷ 0 ∷ 1 ∷ 1 ∷ 1 ∷ 1 ∷ 1 ∷ 1 ∷ [];
}

-- the curves of `three_ticks`
abbrev pub three_tick_curves : Curves
three_tick_curves = curves_of three_ticks

-- thread a wins at tick 0 and runs to tick 4, and thread b wins then and runs to tick 7
abbrev pub seven_tick_curves : Curves
seven_tick_curves = record {
  by = Thread;
  names = codes "a" ∷ codes "b" ∷ [];
  stretches =
      record { thread = 1; end = 0; ticks = 0; draws = 1 } ∷ record { thread = 1; end = 4; ticks = 4; draws = 0 }
      ∷ record { thread = 2; end = 4; ticks = 0; draws = 1 } ∷ record { thread = 2; end = 7; ticks = 3; draws = 0 } ∷ [];
  origin = 0;
  window = None;
  commands = [];
}

-- dues that give the first thread all ticks
abbrev pub all_to_the_first : Dues
all_to_the_first = record { live = λ tick. tick; parts = λ t tick. if t == 1 then tick * tick_parts else 0 }

-- the threads of `seven_tick_curves`, by the ticks that they have run
abbrev pub seven_tick_standings : List Standing
seven_tick_standings = record { thread = 1; ticks = 4 } ∷ record { thread = 2; ticks = 3 } ∷ []

-- thirteen threads or currencies, which have run equally long
abbrev pub thirteen : List Standing
thirteen = map (λ n. record { thread = n; ticks = 1 }) (range_with_len 1 13)

-- thread a runs to tick 7000; commands are made at the beginning, near it, in the middle, at the end and after it
abbrev pub commanded_curves : Curves
commanded_curves = record {
  by = Thread;
  names = codes "a" ∷ [];
  stretches = record { thread = 1; end = 7000; ticks = 7000; draws = 0 } ∷ [];
  origin = 0;
  window = None;
  commands = 0 ∷ 11 ∷ 12 ∷ 20 ∷ 3500 ∷ 3500 ∷ 7000 ∷ 7001 ∷ [];
}

-- Their marks: a column is about ten ticks wide.
abbrev pub commanded_marks : List ℕ
commanded_marks = text (
    codes "<path d='M101.0 60V460' stroke='#bbbbbb' stroke-dasharray='3 3'><title>command at 11</title></path>"
    ∷ codes "<path d='M435.0 60V460' stroke='#bbbbbb' stroke-dasharray='3 3'><title>command at 3500</title></path>"
    ∷ codes "<path d='M770.0 60V460' stroke='#bbbbbb' stroke-dasharray='3 3'><title>command at 7000</title></path>" ∷ [])

-- Their marks from tick 11 to tick 3511: a column is about five ticks wide.
abbrev pub commanded_marks_within : List ℕ
commanded_marks_within = text (
    codes "<path d='M100.1 60V460' stroke='#bbbbbb' stroke-dasharray='3 3'><title>command at 12</title></path>"
    ∷ codes "<path d='M101.7 60V460' stroke='#bbbbbb' stroke-dasharray='3 3'><title>command at 20</title></path>"
    ∷ codes "<path d='M767.8 60V460' stroke='#bbbbbb' stroke-dasharray='3 3'><title>command at 3500</title></path>" ∷ [])

-- the picture of `three_ticks` with the title `a < b`
abbrev pub three_tick_picture : List ℕ
three_tick_picture = text (
    codes "<svg xmlns='http://www.w3.org/2000/svg' width='860' height='540' viewBox='0 0 860 540' role='img' aria-labelledby='title' font-family='sans-serif' font-size='12' fill='#222222'>"
    ∷ codes "<title id='title'>a &lt; b</title>"
    ∷ codes "<rect width='860' height='540' fill='#ffffff'/>"
    ∷ codes "<text x='100' y='34' font-size='18'>a &lt; b</text>"
    ∷ codes "<path d='M100 460.0H770' stroke='#dddddd'/>"
    ∷ codes "<text x='92' y='460.0' dy='4' text-anchor='end'>0</text>"
    ∷ codes "<path d='M100 260.0H770' stroke='#dddddd'/>"
    ∷ codes "<text x='92' y='260.0' dy='4' text-anchor='end'>1</text>"
    ∷ codes "<path d='M100 60.0H770' stroke='#dddddd'/>"
    ∷ codes "<text x='92' y='60.0' dy='4' text-anchor='end'>2</text>"
    ∷ codes "<path d='M100.0 460v5' stroke='#222222'/>"
    ∷ codes "<text x='100.0' y='480' text-anchor='middle'>0</text>"
    ∷ codes "<path d='M323.3 460v5' stroke='#222222'/>"
    ∷ codes "<text x='323.3' y='480' text-anchor='middle'>1</text>"
    ∷ codes "<path d='M546.6 460v5' stroke='#222222'/>"
    ∷ codes "<text x='546.6' y='480' text-anchor='middle'>2</text>"
    ∷ codes "<path d='M770.0 460v5' stroke='#222222'/>"
    ∷ codes "<text x='770.0' y='480' text-anchor='middle'>3</text>"
    ∷ codes "<path d='M100 60V460H770' fill='none' stroke='#222222'/>"
    ∷ codes "<text x='435' y='512' text-anchor='middle'>time, in ticks</text>"
    ∷ codes "<text transform='translate(14 260) rotate(-90)' text-anchor='middle'>what each thread has run, in ticks</text>"
    ∷ codes "<g fill='none' stroke-width='2' stroke-linejoin='round'>"
    ∷ codes "<polyline points=' 100.0,460.0 323.3,260.0 546.6,60.0 770.0,60.0' stroke='#0072b2'/>"
    ∷ codes "<polyline points=' 100.0,460.0 323.3,460.0 546.6,460.0 770.0,260.0' stroke='#d55e00'/>"
    ∷ codes "</g>"
    ∷ codes "<path d='M770 60.0L784 60.0' stroke='#0072b2'/>"
    ∷ codes "<text x='788' y='60.0' dy='4'>a 66.7%</text>"
    ∷ codes "<path d='M770 260.0L784 260.0' stroke='#d55e00'/>"
    ∷ codes "<text x='788' y='260.0' dy='4'>b 33.3%</text>"
    ∷ codes "</svg>" ∷ [])

-- the picture with a window of two ticks: at tick 3 each thread has run one of the last two
abbrev pub three_tick_window_picture : List ℕ
three_tick_window_picture = text (
    codes "<svg xmlns='http://www.w3.org/2000/svg' width='860' height='540' viewBox='0 0 860 540' role='img' aria-labelledby='title' font-family='sans-serif' font-size='12' fill='#222222'>"
    ∷ codes "<title id='title'>a &lt; b</title>"
    ∷ codes "<rect width='860' height='540' fill='#ffffff'/>"
    ∷ codes "<text x='100' y='34' font-size='18'>a &lt; b</text>"
    ∷ codes "<path d='M100 460.0H770' stroke='#dddddd'/>"
    ∷ codes "<text x='92' y='460.0' dy='4' text-anchor='end'>0</text>"
    ∷ codes "<path d='M100 380.0H770' stroke='#dddddd'/>"
    ∷ codes "<text x='92' y='380.0' dy='4' text-anchor='end'>20</text>"
    ∷ codes "<path d='M100 300.0H770' stroke='#dddddd'/>"
    ∷ codes "<text x='92' y='300.0' dy='4' text-anchor='end'>40</text>"
    ∷ codes "<path d='M100 220.0H770' stroke='#dddddd'/>"
    ∷ codes "<text x='92' y='220.0' dy='4' text-anchor='end'>60</text>"
    ∷ codes "<path d='M100 140.0H770' stroke='#dddddd'/>"
    ∷ codes "<text x='92' y='140.0' dy='4' text-anchor='end'>80</text>"
    ∷ codes "<path d='M100 60.0H770' stroke='#dddddd'/>"
    ∷ codes "<text x='92' y='60.0' dy='4' text-anchor='end'>100</text>"
    ∷ codes "<path d='M100.0 460v5' stroke='#222222'/>"
    ∷ codes "<text x='100.0' y='480' text-anchor='middle'>0</text>"
    ∷ codes "<path d='M323.3 460v5' stroke='#222222'/>"
    ∷ codes "<text x='323.3' y='480' text-anchor='middle'>1</text>"
    ∷ codes "<path d='M546.6 460v5' stroke='#222222'/>"
    ∷ codes "<text x='546.6' y='480' text-anchor='middle'>2</text>"
    ∷ codes "<path d='M770.0 460v5' stroke='#222222'/>"
    ∷ codes "<text x='770.0' y='480' text-anchor='middle'>3</text>"
    ∷ codes "<path d='M100 60V460H770' fill='none' stroke='#222222'/>"
    ∷ codes "<text x='435' y='512' text-anchor='middle'>time, in ticks</text>"
    ∷ codes "<text transform='translate(14 260) rotate(-90)' text-anchor='middle'>what each thread has run in the last 2 ticks, in percent</text>"
    ∷ codes "<g fill='none' stroke-width='2' stroke-linejoin='round'>"
    ∷ codes "<polyline points=' 100.0,460.0 323.3,60.0 546.6,60.0 770.0,260.0' stroke='#0072b2'/>"
    ∷ codes "<polyline points=' 100.0,460.0 323.3,460.0 546.6,460.0 770.0,260.0' stroke='#d55e00'/>"
    ∷ codes "</g>"
    ∷ codes "<path d='M770 260.0L784 260.0' stroke='#0072b2'/>"
    ∷ codes "<text x='788' y='260.0' dy='4'>a 50.0%</text>"
    ∷ codes "<path d='M770 260.0L784 276.0' stroke='#d55e00'/>"
    ∷ codes "<text x='788' y='276.0' dy='4'>b 50.0%</text>"
    ∷ codes "</svg>" ∷ [])

-- a timed program: thread a has three quarters of the value up to tick 2, and half of it afterwards
abbrev pub two_rates : List ℕ
two_rates = text (
    codes "lottery 3" ∷ codes "quantum 1" ∷ codes "for 4" ∷ codes "script spin" ∷ codes "compute 10" ∷ codes "endscript" ∷ codes "fundx 3 base a spin" ∷ codes "fundx 1 base b spin"
    ∷ codes "at 2" ∷ codes "settkt 1 1" ∷ [])

-- a timed program: thread a stands below currency w, and so below u, up to tick 2, and below v afterwards
abbrev pub moved_below : List ℕ
moved_below = text (
    codes "lottery 3" ∷ codes "quantum 1" ∷ codes "for 4" ∷ codes "script spin" ∷ codes "compute 10" ∷ codes "endscript"
    ∷ codes "mkcur u" ∷ codes "mkcur w" ∷ codes "mkcur v" ∷ codes "mktkt 1 base" ∷ codes "fund 1 u" ∷ codes "mktkt 1 u" ∷ codes "fund 2 w"
    ∷ codes "mktkt 1 base" ∷ codes "fund 3 v" ∷ codes "fundx 1 w a spin"
    ∷ codes "at 2" ∷ codes "unfund 4" ∷ codes "mktkt 1 v" ∷ codes "fund 5 a" ∷ [])

-- The picture of `two_rates`, with the title `due`. Thread a wins the draws at ticks 0, 1 and 3, and thread b that at
-- tick 2. Of three ticks thread a is due 2 * 3 / 4 + 1 / 2 = 2, and of four 2.5.
abbrev pub two_rate_picture : List ℕ
two_rate_picture = text (
    codes "<svg xmlns='http://www.w3.org/2000/svg' width='860' height='540' viewBox='0 0 860 540' role='img' aria-labelledby='title' font-family='sans-serif' font-size='12' fill='#222222'>"
    ∷ codes "<title id='title'>due</title>"
    ∷ codes "<rect width='860' height='540' fill='#ffffff'/>"
    ∷ codes "<text x='100' y='34' font-size='18'>due</text>"
    ∷ codes "<path d='M100 460.0H770' stroke='#dddddd'/>"
    ∷ codes "<text x='92' y='460.0' dy='4' text-anchor='end'>0</text>"
    ∷ codes "<path d='M100 326.7H770' stroke='#dddddd'/>"
    ∷ codes "<text x='92' y='326.7' dy='4' text-anchor='end'>1</text>"
    ∷ codes "<path d='M100 193.4H770' stroke='#dddddd'/>"
    ∷ codes "<text x='92' y='193.4' dy='4' text-anchor='end'>2</text>"
    ∷ codes "<path d='M100 60.0H770' stroke='#dddddd'/>"
    ∷ codes "<text x='92' y='60.0' dy='4' text-anchor='end'>3</text>"
    ∷ codes "<path d='M100.0 460v5' stroke='#222222'/>"
    ∷ codes "<text x='100.0' y='480' text-anchor='middle'>0</text>"
    ∷ codes "<path d='M267.5 460v5' stroke='#222222'/>"
    ∷ codes "<text x='267.5' y='480' text-anchor='middle'>1</text>"
    ∷ codes "<path d='M435.0 460v5' stroke='#222222'/>"
    ∷ codes "<text x='435.0' y='480' text-anchor='middle'>2</text>"
    ∷ codes "<path d='M602.5 460v5' stroke='#222222'/>"
    ∷ codes "<text x='602.5' y='480' text-anchor='middle'>3</text>"
    ∷ codes "<path d='M770.0 460v5' stroke='#222222'/>"
    ∷ codes "<text x='770.0' y='480' text-anchor='middle'>4</text>"
    ∷ codes "<path d='M435.0 60V460' stroke='#bbbbbb' stroke-dasharray='3 3'><title>command at 2</title></path>"
    ∷ codes "<path d='M100 60V460H770' fill='none' stroke='#222222'/>"
    ∷ codes "<text x='435' y='512' text-anchor='middle'>time, in ticks</text>"
    ∷ codes "<text transform='translate(14 260) rotate(-90)' text-anchor='middle'>what each thread has run, in ticks</text>"
    ∷ codes "<g fill='none' stroke-width='1' stroke-opacity='0.5' stroke-linejoin='round'>"
    ∷ codes "<polyline points=' 100.0,460.0 267.5,360.0 435.0,260.0 602.5,193.4 770.0,126.7' stroke='#0072b2'/>"
    ∷ codes "<polyline points=' 100.0,460.0 267.5,426.7 435.0,393.4 602.5,326.7 770.0,260.0' stroke='#d55e00'/>"
    ∷ codes "</g>"
    ∷ codes "<g fill='none' stroke-width='2' stroke-linejoin='round'>"
    ∷ codes "<polyline points=' 100.0,460.0 267.5,326.7 435.0,193.4 602.5,193.4 770.0,60.0' stroke='#0072b2'/>"
    ∷ codes "<polyline points=' 100.0,460.0 267.5,460.0 435.0,460.0 602.5,326.7 770.0,326.7' stroke='#d55e00'/>"
    ∷ codes "</g>"
    ∷ codes "<path d='M770 60.0L784 60.0' stroke='#0072b2'/>"
    ∷ codes "<text x='788' y='60.0' dy='4'>a 75.0%</text>"
    ∷ codes "<path d='M770 326.7L784 326.7' stroke='#d55e00'/>"
    ∷ codes "<text x='788' y='326.7' dy='4'>b 25.0%</text>"
    ∷ codes "</svg>" ∷ [])

-- The same with a window of two ticks. Of those from tick 1 to tick 3 thread a is due (3 / 4 + 1 / 2) / 2 = 62.5
-- percent.
abbrev pub two_rate_window_picture : List ℕ
two_rate_window_picture = text (
    codes "<svg xmlns='http://www.w3.org/2000/svg' width='860' height='540' viewBox='0 0 860 540' role='img' aria-labelledby='title' font-family='sans-serif' font-size='12' fill='#222222'>"
    ∷ codes "<title id='title'>due</title>"
    ∷ codes "<rect width='860' height='540' fill='#ffffff'/>"
    ∷ codes "<text x='100' y='34' font-size='18'>due</text>"
    ∷ codes "<path d='M100 460.0H770' stroke='#dddddd'/>"
    ∷ codes "<text x='92' y='460.0' dy='4' text-anchor='end'>0</text>"
    ∷ codes "<path d='M100 380.0H770' stroke='#dddddd'/>"
    ∷ codes "<text x='92' y='380.0' dy='4' text-anchor='end'>20</text>"
    ∷ codes "<path d='M100 300.0H770' stroke='#dddddd'/>"
    ∷ codes "<text x='92' y='300.0' dy='4' text-anchor='end'>40</text>"
    ∷ codes "<path d='M100 220.0H770' stroke='#dddddd'/>"
    ∷ codes "<text x='92' y='220.0' dy='4' text-anchor='end'>60</text>"
    ∷ codes "<path d='M100 140.0H770' stroke='#dddddd'/>"
    ∷ codes "<text x='92' y='140.0' dy='4' text-anchor='end'>80</text>"
    ∷ codes "<path d='M100 60.0H770' stroke='#dddddd'/>"
    ∷ codes "<text x='92' y='60.0' dy='4' text-anchor='end'>100</text>"
    ∷ codes "<path d='M100.0 460v5' stroke='#222222'/>"
    ∷ codes "<text x='100.0' y='480' text-anchor='middle'>0</text>"
    ∷ codes "<path d='M267.5 460v5' stroke='#222222'/>"
    ∷ codes "<text x='267.5' y='480' text-anchor='middle'>1</text>"
    ∷ codes "<path d='M435.0 460v5' stroke='#222222'/>"
    ∷ codes "<text x='435.0' y='480' text-anchor='middle'>2</text>"
    ∷ codes "<path d='M602.5 460v5' stroke='#222222'/>"
    ∷ codes "<text x='602.5' y='480' text-anchor='middle'>3</text>"
    ∷ codes "<path d='M770.0 460v5' stroke='#222222'/>"
    ∷ codes "<text x='770.0' y='480' text-anchor='middle'>4</text>"
    ∷ codes "<path d='M435.0 60V460' stroke='#bbbbbb' stroke-dasharray='3 3'><title>command at 2</title></path>"
    ∷ codes "<path d='M100 60V460H770' fill='none' stroke='#222222'/>"
    ∷ codes "<text x='435' y='512' text-anchor='middle'>time, in ticks</text>"
    ∷ codes "<text transform='translate(14 260) rotate(-90)' text-anchor='middle'>what each thread has run in the last 2 ticks, in percent</text>"
    ∷ codes "<g fill='none' stroke-width='1' stroke-opacity='0.5' stroke-linejoin='round'>"
    ∷ codes "<polyline points=' 100.0,460.0 267.5,160.0 435.0,160.0 602.5,210.0 770.0,260.0' stroke='#0072b2'/>"
    ∷ codes "<polyline points=' 100.0,460.0 267.5,360.0 435.0,360.0 602.5,310.0 770.0,260.0' stroke='#d55e00'/>"
    ∷ codes "</g>"
    ∷ codes "<g fill='none' stroke-width='2' stroke-linejoin='round'>"
    ∷ codes "<polyline points=' 100.0,460.0 267.5,60.0 435.0,60.0 602.5,260.0 770.0,260.0' stroke='#0072b2'/>"
    ∷ codes "<polyline points=' 100.0,460.0 267.5,460.0 435.0,460.0 602.5,260.0 770.0,260.0' stroke='#d55e00'/>"
    ∷ codes "</g>"
    ∷ codes "<path d='M770 260.0L784 260.0' stroke='#0072b2'/>"
    ∷ codes "<text x='788' y='260.0' dy='4'>a 50.0%</text>"
    ∷ codes "<path d='M770 260.0L784 276.0' stroke='#d55e00'/>"
    ∷ codes "<text x='788' y='276.0' dy='4'>b 50.0%</text>"
    ∷ codes "</svg>" ∷ [])
