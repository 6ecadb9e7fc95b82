-- The states of files and sinks in memory and of the outside, by the fields that only this crate sees.
use Rattle.std.specs.Prelude.{◌≡◌, ℕ, ◌+◌, ◌-◌, ◌^◌, ◌<◌, false, ◌&&◌, Option, Some, None, is_none, option_map, List, [], map, drop, Contains, Result, IsOk, IsErr}
use Rattle.cl_io.specs.declared.mem_files.MemFiles.{MemFiles}
use Rattle.cl_io.specs.declared.mem_files.NamedBytes.{NamedBytes}
use Rattle.cl_io.specs.declared.mem_files.Part.{Part}
use Rattle.cl_io.specs.declared.mem_sink.MemSink.{MemSink}
use Rattle.cl_io.specs.declared.std_files.StdFiles.{StdFiles}
use Rattle.cl_io.specs.declared.std_sink.StdSink.{StdSink}
use Rattle.cl_io.specs.Files.{FilesState}
use Rattle.cl_io.specs.Memory.{bytes_at, content_of, entry_of, has_file, is_empty, is_known, parts_of, tried_name, where_told}
use Rattle.cl_io.specs.Sink.{SinkState}

-- Files in memory are steady where no call is to fail.
abbrev pub files_state : MemFiles → FilesState
files_state m = record {
  content = content_of m.files;
  knows = is_known m.files m.missing;
  there = has_file m.files;
  tried = where_told m.log.told (map (tried_name m.files m.missing) m.log.tried.items);
  taken = where_told m.log.told (map (entry_of m.files) (parts_of m.log.earlier.items m.log.current));
  places = m.log.places;
  faults = m.script.faults;
  steady = is_empty m.script.fail_calls && is_none m.fail_at;
}

abbrev pub sink_state : MemSink → SinkState
sink_state sink = record { written = Some sink.bytes.items; free = Some sink.room; faults = sink.script.faults; steady = is_empty sink.script.fail_calls }

-- the numbers of the calls that are to fail, from 1 on, and how many calls were made
abbrev pub failing_calls : MemFiles → List ℕ
failing_calls m = m.script.fail_calls

abbrev pub calls_made : MemFiles → ℕ
calls_made m = m.script.calls

-- how many bytes reads may give before one fails, where that is limited
abbrev pub bytes_allowed : MemFiles → Option ℕ
bytes_allowed m = option_map (λ place. place - m.given) m.fail_at

-- what was not read of the file that was begun last
abbrev pub rest_of : List NamedBytes → Option Part → List ℕ
rest_of files None = []
rest_of files (Some part) = drop part.count (bytes_at files part.file)

abbrev pub unread : MemFiles → List ℕ
unread m = rest_of m.files m.log.current

-- the same of a sink: the writes that are to fail, how many were made, and how many bytes one takes at most
abbrev pub failing_writes : MemSink → List ℕ
failing_writes sink = sink.script.fail_calls

abbrev pub writes_made : MemSink → ℕ
writes_made sink = sink.script.calls

abbrev pub piece_of : MemSink → ℕ
piece_of sink = sink.piece

-- One call more was made, of the same that are to fail. (The count stands still at the greatest number of 64 bits.)
pub record Counted (failing failing' : List ℕ) (calls calls' : ℕ) : Type 0 where
  pub same : failing' ≡ failing
  pub one_more : calls < 2 ^ 64 - 1 → calls' ≡ calls + 1

-- A call fails exactly where its number is one of those, or where something stops it.
pub record Fails {T E : Type 0} (result : Result T E) (failing : List ℕ) (call : ℕ) (Stopped : Type 0) : Type 0 where
  pub listed : Contains failing call → IsErr result
  pub stopped : Stopped → IsErr result
  pub otherwise : (Contains failing call → ⊥) → (Stopped → ⊥) → IsOk result

-- The files of the system tell nothing.
abbrev pub outer_files : {R A B C : _} → StdFiles R A B C → FilesState
outer_files files = record {
  content = λ _. [];
  knows = λ _. false;
  there = λ _. false;
  tried = None;
  taken = None;
  places = 0;
  faults = files.faults;
  steady = false;
}

-- nor does a writer of the system
abbrev pub outer_sink : {W : _} → StdSink W → SinkState
outer_sink sink = record { written = None; free = None; faults = sink.faults; steady = false }
