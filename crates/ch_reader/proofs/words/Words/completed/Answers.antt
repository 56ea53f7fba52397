use Rattle.std.proofs.Common.{ℕ, List, ◌-◌, ◌∙◌, ap, min, length, take, drop}
use Rattle.std.proofs.lemmas.List.{take_rest}
use Rattle.ch_reader.specs.Reading.{header_size}
use Rattle.ch_reader.proofs.Headers.{completes}
use Rattle.ch_reader.proofs.words.Words.completed.Goals as goal

pub returns : goal.returns
returns c =
    let n = c.filled-first.result.1 in
    let piece = c.args.piece.now in
    let first = c.filled-first.result.0 in
    let rest : List ℕ = take (length piece - n) (drop n piece) in
    completes c.args.expected c.args.self.now piece rest first c.filled-words.result.0 n c.filled-words.result.1 c.requires
    c.filled-first.ensures.bytes c.filled-first.ensures.count (take_rest piece n) c.filled-words.ensures.bytes
    (c.filled-words.ensures.count ∙ ap (λ (s : ℕ). min (s - length first) (length rest)) (c.header_size-size.ensures ∙ ap (header_size c.args.expected) c.as_slice.ensures))
