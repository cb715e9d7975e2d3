-- What the adapters over the system's files and streams hold.
use Rattle.std.specs.Prelude.{ℕ}
use Rattle.plai_base.specs.declared.adapters.InputSource.{InputSource}
use Rattle.plai_base.specs.declared.adapters.OutputSink.{OutputSink}
use Rattle.plai_base.specs.declared.adapters.FileLibrary.{FileLibrary}

-- the reader of a source
abbrev pub input_reader : {R : Type 0} → InputSource R → R
input_reader source = source.reader

-- how often a read of a source has failed
abbrev pub input_faults : {R : Type 0} → InputSource R → ℕ
input_faults source = source.faults

-- how many reads of a source there were
abbrev pub input_reads : {R : Type 0} → InputSource R → ℕ
input_reads source = source.reads

-- the writer of a sink
abbrev pub output_writer : {W : Type 0} → OutputSink W → W
output_writer sink = sink.writer

-- how often a write of a sink has failed
abbrev pub output_faults : {W : Type 0} → OutputSink W → ℕ
output_faults sink = sink.faults

-- how often a read of the system's files has failed
abbrev pub file_faults : {R : Type 0} → FileLibrary R → ℕ
file_faults library = library.faults
