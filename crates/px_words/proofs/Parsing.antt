-- The job that a parse of words leads to, and the words that are refused.
use Rattle.std.proofs.Common.{◌≡◌, ◌⊎◌, ℕ, Bool, true, false, not, ◌&&◌, ◌||◌, if◌then◌else◌, List, [], ◌∷◌, ◌++◌, map, Option, Some, None, IfSome, is_some, refl, sym, ◌∙◌, ap, inl, inr, true≢false}
use Rattle.std.proofs.Math.Bool.{and-true, or-true}
use Rattle.std.specs.List.{list_any}
use Rattle.clap.specs.Kinds.{Kinds, IsAmong, or_else}
use Rattle.clap.specs.Walk.{Held, Row, Text, idle, first_of, nothing_held, rows_of, settled, walk_from}
use Rattle.clap.specs.Simple.{App, argument_words, built, entered, is_simple, matches_of}
use Rattle.clap.specs.Faults.{built_fault, check_fault, defaults_fault, entered_fault, fault_of, is_simple_and_free, level_fault, settle_fault, walk_fault}
use Rattle.clap.specs.Takes.{is_given}
use Rattle.clap.specs.Matches.{first_value, found_of}
use Rattle.clap.proofs.WalkLemmas.{first_value-rows}
use Rattle.clap.specs.declared.error.kind.ErrorKind.{ErrorKind}
use Rattle.clap.specs.declared.error.kind.ErrorKind.TheVariants.{OutOfMemory}
use Rattle.clap.specs.declared.parser.matches.ArgMatches.{ArgMatches}
use Rattle.px_words.specs.Words.{Item, Opened, Neither, Whole, Name, Values, opened, begins_with_dash, items_from, and_item, are_different, are_known, is_known, value_of, names, job_by, job_of, job_of_items}
use Rattle.px_words.specs.Options.{app, value_in}
use Rattle.px_words.specs.Screen.{all_pass, passes, has_known_name}
use Rattle.px_words.specs.declared.job.Job.{Job}
use Rattle.px_words.proofs.Items.{gathered, gathered_item, gathered_none}
use Rattle.px_words.proofs.Rules.{filled_rule, rules, is_none, none_both, item_rows, no_bad_default, value_in_rows, without_defaults}
use Rattle.px_words.proofs.Turns.{shape, stands}
use Rattle.px_words.proofs.Walking.{Agrees, agrees, end_of, nothing, rows_in, walk_passes}

-- the command as it is built

abbrev the_built : App
the_built = record { top = shape; subs = [] }

app_built : built app ≡ the_built
unfolding names
app_built = refl

pub app_simple : is_simple app ≡ true
unfolding names
app_simple = refl

pub app_free : is_simple_and_free app ≡ true
unfolding names
app_free = refl

all_words : (words : List Text) → argument_words app words ≡ words
unfolding names
all_words words = refl

no_entry : (stop : Option (Text × List Text)) → entered the_built stop ≡ None
no_entry None = refl
no_entry (Some p) = refl

no_entry_fault : (stop : Option (Text × List Text)) → entered_fault the_built stop ≡ []
no_entry_fault None = refl
no_entry_fault (Some p) = refl

none_required : (rows : List Row) (known : List Text) → list_any (λ a. a.required && not (is_given a.id rows)) (map filled_rule known) ≡ false
none_required rows [] = refl
none_required rows (name ∷ known) = none_required rows known

no_check_fault : (rows : List Row) → check_fault shape rows false ≡ []
no_check_fault rows = rw (none_required rows names) refl

-- its faults are those of the walk

level_passes : (words : List Text) → is_none (level_fault shape [] nothing_held words false []) ≡ walk_passes (stands nothing idle) words
level_passes words =
    let end = end_of (stands nothing idle) words in
    rw (no_bad_default (settled rules end).rows, no_check_fault _)
    (none_both (walk_fault shape [] (stands nothing idle) words) _
    ∙ ap (λ (b : Bool). is_none (walk_fault shape [] (stands nothing idle) words) && b) (none_both (settle_fault rules false end) [] ∙ and-true _))

fault_passes : (words : List Text) → is_none (fault_of app words) ≡ walk_passes (stands nothing idle) words
fault_passes words =
    ap (λ (a : App). is_none (built_fault a nothing_held (argument_words app words))) app_built
    ∙ ap (λ (ws : List Text). is_none (built_fault the_built nothing_held ws)) (all_words words)
    ∙ rw (no_entry _, no_entry_fault _) (level_passes words)

matches_are : (words : List Text) → matches_of app words ≡ rows_in (end_of (stands nothing idle) words)
matches_are words =
    ap (λ (a : App). Rattle.clap.specs.Walk.rows_after a.top.rules (Rattle.clap.specs.Simple.names_of a) (argument_words app words)) app_built
    ∙ ap (λ (ws : List Text). Rattle.clap.specs.Walk.rows_after rules [] ws) (all_words words)
    ∙ without_defaults _

-- the job of items

abbrev job_of_all : Option (List Item) → Option Job
job_of_all None = None
job_of_all (Some all) = job_by (λ name. value_of name all)

job_gathered : (words : List Text) → job_of words ≡ job_of_all (gathered [] (items_from None words))
unfolding job_of
job_gathered words = go (items_from None words)
  where
    by_test : (b : Bool) (items : List Item) → (if b then job_by (λ name. value_of name items) else None) ≡ job_of_all (if b then Some items else None)
    by_test true items = refl
    by_test false items = refl

    go : (o : Option (List Item)) → ◌≡◌ {A = Option Job} (elim o [ None ↦ None | Some items ↦ job_of_items items ]) (job_of_all (gathered [] o))
    go None = refl
    go (Some items) = by_test (are_known items && are_different items) items

-- words that the screen turns away

unknown_name : (name : Text) (words : List Text) (found : List Item) → is_known name ≡ false → gathered found (items_from (Some name) words) ≡ None
unknown_name name [] found unknown = refl
unknown_name name (word ∷ words) found unknown = go (begins_with_dash word)
  where
    go : (dash : Bool) → gathered found (if dash then None else and_item (name, word) (items_from None words)) ≡ None
    go true = refl
    go false = gathered_none found (name, word) (items_from None words) unknown

abbrev NoneGathered : List Text → Type 0
NoneGathered words = (waiting : Option Text) (found : List Item) → gathered found (items_from waiting words) ≡ None

module _ (word : Text) (words : List Text) (out : (passes word && all_pass words) ≡ false) (rest : all_pass words ≡ false → NoneGathered words) where
  later : has_known_name (opened word) ≡ true → all_pass words ≡ false
  later known = sym (ap (λ (b : Bool). b && all_pass words) (ap (λ (b : Bool). not (begins_with_dash word) || b) known ∙ or-true (not (begins_with_dash word)))) ∙ out

  after_plain : begins_with_dash word ≡ false → all_pass words ≡ false
  after_plain plain = sym (ap (λ (b : Bool). (not b || has_known_name (opened word)) && all_pass words) plain) ∙ out

  out_item : (found : List Item) (item : Item) (known : Bool) → is_known item.0 ≡ known → (is_known item.0 ≡ true → all_pass words ≡ false) → gathered found (and_item item (items_from None words)) ≡ None
  out_item found item true is next = gathered_item found item (items_from None words) is ∙ rest (next is) None (found ++ item ∷ [])
  out_item found item false is next = gathered_none found item (items_from None words) is

  out_name : (found : List Item) (name : Text) (known : Bool) → is_known name ≡ known → (is_known name ≡ true → all_pass words ≡ false) → gathered found (items_from (Some name) words) ≡ None
  out_name found name true is next = rest (next is) (Some name) found
  out_name found name false is next = unknown_name name words found is

  out_opened : (found : List Item) (o : Opened) → opened word ≡ o → gathered found (elim o [ Neither ↦ None | Whole item ↦ and_item item (items_from None words) | Name name ↦ items_from (Some name) words ]) ≡ None
  out_opened found Neither is = refl
  out_opened found (Whole item) is = out_item found item (is_known item.0) refl (λ known. later (ap has_known_name is ∙ known))
  out_opened found (Name name) is = out_name found name (is_known name) refl (λ known. later (ap has_known_name is ∙ known))

  out_waiting : (found : List Item) (name : Text) (dash : Bool) → begins_with_dash word ≡ dash → gathered found (if dash then None else and_item (name, word) (items_from None words)) ≡ None
  out_waiting found name true is = refl
  out_waiting found name false is = out_item found (name, word) (is_known name) refl (λ known. after_plain is)

  out_word : NoneGathered (word ∷ words)
  out_word None found = out_opened found (opened word) refl
  out_word (Some name) found = out_waiting found name (begins_with_dash word) refl

turned_away : (words : List Text) → all_pass words ≡ false → NoneGathered words
turned_away [] out = absurd (true≢false out)
turned_away (word ∷ words) out = out_word word words out (turned_away words)

pub screened_out : (words : List Text) → all_pass words ≡ false → job_of words ≡ None
screened_out words out = job_gathered words ∙ ap job_of_all (turned_away words out None [])

-- words that a parse refuses, but for want of memory

not_some : (o : Option (List Item)) → is_some o ≡ false → o ≡ None
not_some None is = refl
not_some (Some items) is = absurd (true≢false is)

among_some : (kind : ErrorKind) (kinds : Kinds) → IsAmong kind kinds → is_none kinds ≡ false
among_some kind [] is = absurd is
among_some kind (k ∷ ks) is = refl

pub refused : (words : List Text) → all_pass words ≡ true → (kind : ErrorKind) → (kind ≡ OutOfMemory → ⊥) → (kind ≡ OutOfMemory) ⊎ IsAmong kind (fault_of app words) → job_of words ≡ None
refused words pass kind memory (inl is) = absurd (memory is)
refused words pass kind memory (inr is) =
    let none : is_some (gathered [] (items_from None words)) ≡ false = sym (agrees words pass).taken ∙ sym (fault_passes words) ∙ among_some kind (fault_of app words) is in
    job_gathered words ∙ ap job_of_all (not_some _ none)

-- words that it takes

pub taken : (words : List Text) → all_pass words ≡ true → (matches : ArgMatches) → fault_of app words ≡ [] → rows_of (found_of matches) ≡ matches_of app words → job_of words ≡ job_by (value_in matches)
taken words pass matches good rows = job_gathered words ∙ go (gathered [] (items_from None words)) some (agrees words pass).rows
  where
    some : is_some (gathered [] (items_from None words)) ≡ true
    some = sym (agrees words pass).taken ∙ sym (fault_passes words) ∙ ap is_none good

    go : (o : Option (List Item)) → is_some o ≡ true → IfSome o (λ all. rows_in (end_of (stands nothing idle) words) ≡ item_rows all) → job_of_all o ≡ job_by (value_in matches)
    go None is h = absurd (true≢false (sym is))
    go (Some all) is h =
        let found : rows_of (found_of matches) ≡ item_rows all = rows ∙ matches_are words ∙ h in
        let same : (name : Text) → value_in matches name ≡ value_of name all = λ name. first_value-rows (found_of matches) name ∙ ap (first_of name) found ∙ value_in_rows name all in
        ap job_by (λ k name. sym (same name) k)
