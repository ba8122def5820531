-- Case A as a waveform, and the edges: each is computed. Assumes nothing.
use mathlib.Core.Path.{refl}
use Rattle.scenario_lines.specs.Number.{more}
use Rattle.scenario_text.specs.Number.{digits_to, text}
use Rattle.vcd.specs.Binary.{binary}
use Rattle.vcd.specs.Blocks.{time_line, exc_line, rc_line, opening, dump, front, changed, change}
use Rattle.vcd.specs.Wave.{after, changes, close, waveform}
use Rattle.vcd.specs.Trace.{row_signals, signals_in, words}
use Rattle.vcd.specs.Write.{any_high, wrong, written, written_in}
use Rattle.vcd.specs.Read.{digits_ahead, bits_ahead, signals_ahead, starts, block_at, rows_found, found, read, read_in}
use Rattle.vcd.specs.Edges.{CaseA, FoundEdges, LastTime, FlagUp, ReadEdges, WrittenEdges}

pub case_a : CaseA
unfolding signals_in row_signals waveform after changes close front opening dump changed change time_line exc_line rc_line text digits_to binary
case_a = refl

pub found_edges : FoundEdges
unfolding found rows_found block_at signals_ahead digits_ahead bits_ahead more starts waveform after changes close front opening dump changed time_line exc_line rc_line text digits_to binary
found_edges = (refl, refl, refl, refl, refl, refl)

pub last_time : LastTime
unfolding block_at signals_ahead digits_ahead more starts changed time_line text digits_to
last_time = (refl, refl)

pub flag_up : FlagUp
unfolding signals_in row_signals waveform after changes close front opening dump changed change time_line exc_line rc_line text digits_to binary
flag_up = refl

pub read_edges : ReadEdges
unfolding read read_in words found rows_found signals_ahead bits_ahead starts waveform after changes close front opening dump exc_line rc_line binary digits_to
read_edges = (refl, refl, refl, refl)

pub written_edges : WrittenEdges
unfolding written written_in wrong any_high signals_in row_signals waveform after changes close front opening dump exc_line rc_line binary digits_to
written_edges = (refl, refl, refl, refl, refl)
