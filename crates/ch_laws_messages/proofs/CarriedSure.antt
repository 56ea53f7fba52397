-- What is given of a log of which it is shown what two nodes' payloads carry; it was so at each moment before.
use Rattle.std.proofs.Common.{◌≡◌, ◌⊎◌, inl, inr, ℕ, true, false, ◌==◌, List, [], ◌∷◌, ◌++◌, sym, ap, ◌∙◌, append_assoc}
use Rattle.std.proofs.lemmas.Bool.{and_parts}
use Rattle.std.proofs.lemmas.List.Elements.{filter_map-append}
use Rattle.std.proofs.lemmas.List.Folds.{list_all-append, find-append}
use Rattle.std.specs.List.{list_all}
use Rattle.std.specs.Option.{option_map, option_or}
use Rattle.std.specs.Prelude.{filter_map, find, Option, Some, None}
use Rattle.ch_model.specs.declared.entry.Entry.{Entry}
use Rattle.ch_model.specs.declared.entry.Entry.TheVariants as entries
use Rattle.ch_model.specs.declared.line.Line.{Line}
use Rattle.ch_model.specs.declared.name.End.{End}
use Rattle.ch_model.specs.declared.name.SockName.{SockName}
use Rattle.ch_model.specs.AccountsFrames.{Saying}
use Rattle.ch_model.specs.AccountsItems.{frames_of, first_payload, opens_nodes}
use Rattle.ch_model.specs.Logs.{kept_with}
use Rattle.ch_model.specs.Same.{is_end_of}
use Rattle.ch_laws_plain_logs.specs.Plain.{is_plain, IsPlain, said_by}
use Rattle.ch_laws_peers.specs.Words.{sayings}
use Rattle.ch_laws_peers.specs.Says.{frames_towards}
use Rattle.ch_laws_messages.specs.CarriedInTime.{datas_to, IsInTime}
use Rattle.ch_laws_messages.proofs.CarriedLogs.{data_by, datas_more}
use Rattle.ch_laws_messages.proofs.CarriedCounting.{Data}
use Rattle.ch_laws_messages.proofs.CarriedAlone.{all_before, none_before}

-- The log is plain; one end of x has written all frames towards y; what is first under an id opens no connection from node to node; what is
-- written was said before; and these are the sayings, with what is said later.
pub record Sure (journal : List Line) (x y : List ℕ) (said : List Saying) (log : List Entry) : Type 0 where
  pub plain : IsPlain log
  pub one : (s : SockName) (e : End) → is_end_of x y s e ≡ true → (frames_of log s e ≡ []) ⊎ (frames_of log s e ≡ frames_towards x y log)
  pub openings : (id : ℕ) (opening : List ℕ) → first_payload id (datas_to x y log) ≡ Some opening → (u v : List ℕ) → opens_nodes journal u v opening ≡ false
  pub in_time : IsInTime x y log
  pub more : List Saying
  pub said_is : sayings x y log ++ more ≡ said

-- ---- payloads

pub first_front : (id : ℕ) (xs ys : List Data) (one : List ℕ) → first_payload id xs ≡ Some one → first_payload id (xs ++ ys) ≡ Some one
first_front id xs ys one e = ap (option_map (λ (d : Data). d.1)) (find-append (λ (d : Data). d.0 == id) xs ys) ∙ by_found (find (λ (d : Data). d.0 == id) xs) e where
  by_found : (o : Option Data) → option_map (λ (d : Data). d.1) o ≡ Some one → option_map (λ (d : Data). d.1) (option_or o (find (λ (d : Data). d.0 == id) ys)) ≡ Some one
  by_found None e = absurd cc
  by_found (Some d) e = e

pub first_kept : (id : ℕ) (o : Option Data) (ds : List Data) (one : List ℕ) → first_payload id ds ≡ Some one → first_payload id (kept_with o ds) ≡ Some one
first_kept id None ds one e = e
first_kept id (Some d) ds one e = first_front id ds (d ∷ []) one e

-- ---- before

pub sure_before : (journal : List Line) (x y : List ℕ) (said : List Saying) (log : List Entry) (entry : Entry) → Sure journal x y said (log ++ entry ∷ []) → Sure journal x y said log
sure_before journal x y said log entry k = record {
  plain = (and_parts (list_all is_plain log) (list_all is_plain (entry ∷ [])) (sym (list_all-append is_plain log (entry ∷ [])) ∙ k.plain)).0;
  one = λ s e is. by_one s e is (k.one s e is);
  openings = λ id opening first. k.openings id opening (ap (first_payload id) (datas_more x y log entry) ∙ first_kept id (data_by x y log entry) (datas_to x y log) opening first);
  in_time = λ front rest s e bytes is. k.in_time front (rest ++ entry ∷ []) s e bytes (sym (append_assoc front (entries.Wrote s e bytes ∷ rest) (entry ∷ [])) ∙ ap (λ (l : List Entry). l ++ entry ∷ []) is);
  more = filter_map (said_by x y) (entry ∷ []) ++ k.more;
  said_is = sym (append_assoc (sayings x y log) (filter_map (said_by x y) (entry ∷ [])) k.more) ∙ ap (λ (l : List Saying). l ++ k.more) (sym (filter_map-append (said_by x y) log (entry ∷ []))) ∙ k.said_is;
} where
  by_one : (s : SockName) (e : End) → is_end_of x y s e ≡ true → (frames_of (log ++ entry ∷ []) s e ≡ []) ⊎ (frames_of (log ++ entry ∷ []) s e ≡ frames_towards x y (log ++ entry ∷ [])) → (frames_of log s e ≡ []) ⊎ (frames_of log s e ≡ frames_towards x y log)
  by_one s e is (inl none) = inl (none_before x y s e log entry is none)
  by_one s e is (inr all) = inr (all_before x y s e log entry is all)
