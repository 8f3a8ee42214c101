-- What is read of a log, line after line.
use Rattle.loop_device.proofs.Uses.{[], ap, append_assoc, arith, cond, count_by, entries_of, Entry, entry_of, filter_map, filter_map-append, io_in, is_wait, length, length-append, line_words, lines_of, List, Log, map, map-append, names_after, names_in, names_of, Ok, Progress, ReadsLine, refl, Says, subst, sum_by-append, sym, ℕ, ◌∙◌}
use Rattle.std.proofs.Common.{◌≡◌, ◌+◌, ◌≤◌, ◌∷◌, ◌++◌, append-nil}

-- of the lines after the header, line 1, all but `rest` have been read, with this progress; `entries` are those read
pub record IsReadTo (lines : List (List ℕ)) (p : Progress) (rest : List (List ℕ)) : Type 0 where
  pub entries : List Entry
  pub said : map Ok entries ++ entries_of p.names p.number rest ≡ entries_of [] 2 lines
  pub names : names_in p.names rest ≡ names_in [] lines
  pub ios : p.ios ≡ filter_map io_in entries
  pub waits : p.waits ≡ count_by is_wait entries
  pub number : p.number ≡ length entries + 2

-- before the first line
pub begun : (lines : List (List ℕ)) (p : Progress) → p ≡ record { number = 2; names = []; ios = []; waits = 0 }
    → IsReadTo lines p lines
begun lines p e =
    subst (λ q. IsReadTo lines q lines) (sym e)
    (record { entries = []; said = refl; names = refl; ios = refl; waits = refl; number = refl })

said_on : (lines : List (List ℕ)) (p q : Progress) (line : List ℕ) (rest : List (List ℕ)) (entries : List Entry)
    (entry : Entry)
    → map Ok entries ++ entries_of p.names p.number (line ∷ rest) ≡ entries_of [] 2 lines
    → entry_of p.names p.number (line_words line) ≡ Ok entry → q.number ≡ p.number + 1
    → q.names ≡ names_after p.names (line_words line)
    → map Ok (entries ++ entry ∷ []) ++ entries_of q.names q.number rest ≡ entries_of [] 2 lines
said_on lines p q line rest entries entry said e number names =
    ap (λ front. front ++ entries_of q.names q.number rest) (map-append Ok entries (entry ∷ []))
    ∙ append_assoc (map Ok entries) (Ok entry ∷ []) (entries_of q.names q.number rest)
    ∙ ap (λ known. map Ok entries ++ Ok entry ∷ entries_of known q.number rest) names
    ∙ ap (λ n. map Ok entries ++ Ok entry ∷ entries_of (names_after p.names (line_words line)) n rest) number
    ∙ ap (λ first. map Ok entries ++ first ∷ entries_of (names_after p.names (line_words line)) (p.number + 1) rest)
    (sym e) ∙ said

-- a line that is read goes from the rest to what was read
pub read_on : (lines : List (List ℕ)) (p q : Progress) (line : List ℕ) (rest : List (List ℕ))
    → IsReadTo lines p (line ∷ rest) → ReadsLine p line q → IsReadTo lines q rest
read_on lines p q line rest before reads = record {
  entries = before.entries ++ reads.entry ∷ [];
  said = said_on lines p q line rest before.entries reads.entry before.said reads.said reads.number reads.names;
  names = ap (λ known. names_in known rest) reads.names ∙ before.names;
  ios = reads.ios ∙ ap (λ ios. ios ++ filter_map io_in (reads.entry ∷ [])) before.ios
      ∙ sym (filter_map-append io_in before.entries (reads.entry ∷ []));
  waits = reads.waits ∙ ap (λ n. n + count_by is_wait (reads.entry ∷ [])) before.waits
      ∙ sym (sum_by-append (λ e. cond (is_wait e) 1 0) before.entries (reads.entry ∷ []));
  number = omega (arith, reads.number, before.number, length-append before.entries (reads.entry ∷ []));
}

-- where no line is left the log has what was read
pub finished : (lines : List (List ℕ)) (p : Progress) (log : Log) → IsReadTo lines p []
    → names_of log.names.items ≡ p.names → log.ios.items ≡ p.ios → log.waits ≡ p.waits → Says lines log
finished lines p log before names ios waits = record {
  entries = before.entries;
  said = sym before.said ∙ append-nil (map Ok before.entries);
  names = names ∙ before.names;
  ios = ios ∙ before.ios;
  waits = waits ∙ before.waits;
}

-- an empty text has no lines
pub no_lines : (text : List ℕ) → length text ≤ 0 → lines_of text ≡ []
no_lines [] none = refl
no_lines (b ∷ bytes) none = absurd (omega (arith, none))
