-- What each directive owes: what is read of its words is what they spell, what they spell is read, and the fault that is told
-- is that of its row.
use Rattle.std.proofs.Common.{◌≡◌, ℕ, ◌^◌, ◌<◌, Bool, List, [], ◌∷◌, ◌++◌, length, Ok, Option, Some, None, refl, ap, sym, subst, arith}
use Rattle.std.specs.Prelude.{IfOk, IfSome, codes, decimal}
use Rattle.std.proofs.lemmas.Option.{slice_get-get_or}
use Rattle.ds_tree.specs.declared.calls.CallOf.TheVariants as calls
use Rattle.ds_tree.specs.declared.calls.HostCallOf.{HostCallOf}
use Rattle.ds_tree.specs.declared.calls.HostCallOf.TheVariants as host_calls
use Rattle.ds_tree.specs.declared.scenarios.Directive.{Directive}
use Rattle.ds_tree.specs.declared.scenarios.Directive.TheVariants as directives
use Rattle.ds_tree.specs.declared.scenarios.Point.{Point}
use Rattle.ds_tree.specs.declared.variables.Spoken.{Spoken}
use Rattle.ds_tree.specs.Lines.{Words}
use Rattle.ds_tree.specs.Grammar.{most_directives, most_ticks, key_word, point_word, landing_word, as_part, after_part, Spells, SpellsCall, Fits, FitsCall, FitsKey, FitsWord, GivesKey, IsAwaited}
use Rattle.ds_tree.specs.Variables.{IsVariable}
use Rattle.ds_script.specs.Faults.{Shape, End, Then, Maybe, Keyword, AnyWord, Key, PointName, Landing, Number, named, binding, count, awaited, first_fault}
use Rattle.ds_script.specs.Reading.{Reads, unbound, on_tree, binding_on_tree, register_at, unregister_at, beat_at, scan_at, mkdir_at, create_at, lookup_at, list_at, stat_at, map_at, resize_at, remove_at, rmdir_at, rename_at, open_at, close_at, put_at, get_at, hold_at, crash_at, fail_at, tick_at, wait_at, die_at, return_at}
use Rattle.ds_script.proofs.Readers.{fault_in, IsLine, IfOk-like}
use Rattle.ds_script.proofs.LookupLaws.{AreNames}
use Rattle.ds_script.proofs.Written.{Written, written_end}
use Rattle.ds_script.proofs.DirectiveLines.{IsWithin, name_at, key_line, key_number_line, named_line, binding_line, after_key_line, named_twice_line, two_numbers_line, number_line, point_line, landing_line, awaited_line, held_line}

-- the words spell a directive that fits
pub record Says (names ws : Words) (d : Directive) : Type 0 where
  pub spells : Spells names ws d
  pub fits : Fits (length names) d

-- a directive's first word, and the reader of the words behind it
pub record IsDirective (names : Words) (word : List ℕ) (shape : Shape) (read : Words → Reads Directive) : Type 0 where
  pub means : (ws : Words) → IfOk (read ws) (Says names (word ∷ ws))
  pub tells : (ws : Words) → first_fault names shape ws ≡ fault_in (read ws)

-- a directive that is written in one way
module _ (V : Type 0) (names : Words) (word : List ℕ) (shape : Shape) (read : Words → Reads Directive)
    (words : V → Words) (Fit : V → Type 0) (make : V → Directive)
    (line : IsLine Directive names shape read (Written V Directive words Fit make)) where
  says_written : ((v : V) → Fit v → Says names (word ∷ words v) (make v)) → (ws : Words) (d : Directive)
      → Written V Directive words Fit make ws d → Says names (word ∷ ws) d
  says_written says ws d h =
      let P : Words → Type 0 = λ ws. Says names (word ∷ ws) (make h.value) in
      subst (λ d. Says names (word ∷ ws) d) (sym h.made) (subst P (sym h.is) (says h.value h.fits))

  pub written_directive : ((v : V) → Fit v → Says names (word ∷ words v) (make v)) → IsDirective names word shape read
  written_directive says = record {
    means = λ ws. IfOk-like (Written V Directive words Fit make ws) (Says names (word ∷ ws)) (read ws) (says_written says ws) (line.means ws);
    tells = line.tells;
  }

  pub written_again : (v : V) → Fit v → read (words v) ≡ Ok (make v)
  written_again v fits = line.again (words v) (make v) (record { value = v; is = refl; fits = fits; made = refl })

-- Directives without more words.

module _ (names : Words) where
  alone : (word : List ℕ) (d : Directive) (read : Words → Reads Directive)
      → IsLine Directive names End read (Written (Unit {0}) Directive (λ v. []) (λ v. Unit {0}) (λ v. d))
      → Says names (word ∷ []) d → IsDirective names word End read
  alone word d read line says = written_directive _ names word End read _ _ _ line (λ v h. says)

  -- a call that binds nothing
  says_call : (front : Words) (call : HostCallOf Spoken) → SpellsCall front call → FitsCall call → Says names front (unbound call)
  says_call front call spells fits = record { spells = (front, spells, all front); fits = (fits, tt) }
    where
      all : (ws : Words) → ws ≡ ws ++ []
      all [] = refl
      all (w ∷ ws) = ap (λ (vs : Words). w ∷ vs) (all ws)

  pub register : IsDirective names (codes "register") End register_at
  unfolding register_at
  register = alone _ _ _ (written_end Directive names (unbound host_calls.Register)) (says_call _ host_calls.Register refl tt)

  pub unregister : IsDirective names (codes "unregister") End unregister_at
  unfolding unregister_at
  unregister = alone _ _ _ (written_end Directive names (unbound host_calls.Unregister)) (says_call _ host_calls.Unregister refl tt)

  pub beat : IsDirective names (codes "beat") End beat_at
  unfolding beat_at
  beat = alone _ _ _ (written_end Directive names (unbound host_calls.Beat)) (says_call _ host_calls.Beat refl tt)

  pub scan : IsDirective names (codes "scan") End scan_at
  unfolding scan_at
  scan = alone _ _ _ (written_end Directive names (unbound host_calls.Scan)) (says_call _ host_calls.Scan refl tt)

  pub dies : IsDirective names (codes "die") End die_at
  unfolding die_at
  dies = alone _ _ _ (written_end Directive names directives.Die) (record { spells = refl; fits = tt })

  pub returns : IsDirective names (codes "return") End return_at
  unfolding return_at
  returns = alone _ _ _ (written_end Directive names directives.Return) (record { spells = refl; fits = tt })

  pub stats : IsDirective names (codes "stat") (Then Key End) stat_at
  unfolding stat_at
  stats = written_directive _ names _ _ _ _ _ _ (key_line names (λ key. unbound (host_calls.Tree (calls.Stat key)))) (λ v h. says_call _ (host_calls.Tree (calls.Stat v.0)) refl h.0)

  pub stats_again : (key : Spoken) → FitsKey key → stat_at (key_word key ∷ []) ≡ Ok (unbound (host_calls.Tree (calls.Stat key)))
  unfolding stat_at
  stats_again key fits =
      written_again _ names (codes "stat") _ _ _ _ _ (key_line names (λ key. unbound (host_calls.Tree (calls.Stat key)))) (key, tt) (fits, tt)

  pub opens : IsDirective names (codes "open") (Then Key End) open_at
  unfolding open_at
  opens = written_directive _ names _ _ _ _ _ _ (key_line names (λ key. unbound (host_calls.Tree (calls.OpenFile key)))) (λ v h. says_call _ (host_calls.Tree (calls.OpenFile v.0)) refl h.0)

  pub opens_again : (key : Spoken) → FitsKey key → open_at (key_word key ∷ []) ≡ Ok (unbound (host_calls.Tree (calls.OpenFile key)))
  unfolding open_at
  opens_again key fits =
      written_again _ names (codes "open") _ _ _ _ _ (key_line names (λ key. unbound (host_calls.Tree (calls.OpenFile key)))) (key, tt) (fits, tt)

  pub closes : IsDirective names (codes "close") (Then Key End) close_at
  unfolding close_at
  closes = written_directive _ names _ _ _ _ _ _ (key_line names (λ key. unbound (host_calls.Close key))) (λ v h. says_call _ (host_calls.Close v.0) refl h.0)

  pub closes_again : (key : Spoken) → FitsKey key → close_at (key_word key ∷ []) ≡ Ok (unbound (host_calls.Close key))
  unfolding close_at
  closes_again key fits =
      written_again _ names (codes "close") _ _ _ _ _ (key_line names (λ key. unbound (host_calls.Close key))) (key, tt) (fits, tt)

  pub maps : IsDirective names (codes "map") (Then Key (Then count End)) map_at
  unfolding map_at
  maps =
      written_directive _ names _ _ _ _ _ _ (key_number_line names 0 4294967295 (omega arith) (λ key n. unbound (host_calls.Tree (calls.Map key n))))
      (λ v h. says_call _ (host_calls.Tree (calls.Map v.0 v.1.0)) refl (h.0, omega (arith, h.1.0.1)))

  pub maps_again : (key : Spoken) (n : ℕ) → FitsKey key → n < 2 ^ 32 → map_at (key_word key ∷ decimal n ∷ []) ≡ Ok (unbound (host_calls.Tree (calls.Map key n)))
  unfolding map_at
  maps_again key n fits small =
      written_again _ names (codes "map") _ _ _ _ _ (key_number_line names 0 4294967295 (omega arith) (λ key n. unbound (host_calls.Tree (calls.Map key n))))
      (key, (n, tt)) (fits, ((omega arith, omega (arith, small)), tt))

  pub resizes : IsDirective names (codes "resize") (Then Key (Then count End)) resize_at
  unfolding resize_at
  resizes =
      written_directive _ names _ _ _ _ _ _ (key_number_line names 0 4294967295 (omega arith) (λ key n. unbound (host_calls.Tree (calls.Resize key n))))
      (λ v h. says_call _ (host_calls.Tree (calls.Resize v.0 v.1.0)) refl (h.0, omega (arith, h.1.0.1)))

  pub resizes_again : (key : Spoken) (n : ℕ) → FitsKey key → n < 2 ^ 32 → resize_at (key_word key ∷ decimal n ∷ []) ≡ Ok (unbound (host_calls.Tree (calls.Resize key n)))
  unfolding resize_at
  resizes_again key n fits small =
      written_again _ names (codes "resize") _ _ _ _ _ (key_number_line names 0 4294967295 (omega arith) (λ key n. unbound (host_calls.Tree (calls.Resize key n))))
      (key, (n, tt)) (fits, ((omega arith, omega (arith, small)), tt))

  pub gets : IsDirective names (codes "get") (Then Key (Then count End)) get_at
  unfolding get_at
  gets =
      written_directive _ names _ _ _ _ _ _ (key_number_line names 0 4294967295 (omega arith) (λ key n. unbound (host_calls.Get key n)))
      (λ v h. says_call _ (host_calls.Get v.0 v.1.0) refl (h.0, omega (arith, h.1.0.1)))

  pub gets_again : (key : Spoken) (n : ℕ) → FitsKey key → n < 2 ^ 32 → get_at (key_word key ∷ decimal n ∷ []) ≡ Ok (unbound (host_calls.Get key n))
  unfolding get_at
  gets_again key n fits small =
      written_again _ names (codes "get") _ _ _ _ _ (key_number_line names 0 4294967295 (omega arith) (λ key n. unbound (host_calls.Get key n)))
      (key, (n, tt)) (fits, ((omega arith, omega (arith, small)), tt))

  pub removes : IsDirective names (codes "remove") (named End) remove_at
  unfolding remove_at
  removes = written_directive _ names _ _ _ _ _ _ (named_line names (λ dir name. on_tree (calls.Remove dir name)))
      (λ v h. says_call _ (host_calls.Tree (calls.Remove v.0 v.1.0)) refl (h.0, h.1.0))

  pub removes_again : (dir : Spoken) (name : List ℕ) → FitsKey dir → FitsWord name
      → remove_at (key_word dir ∷ name ∷ []) ≡ Ok (on_tree (calls.Remove dir name))
  unfolding remove_at
  removes_again dir name fits word =
      written_again _ names (codes "remove") _ _ _ _ _ (named_line names (λ dir name. on_tree (calls.Remove dir name))) (dir, (name, tt)) (fits, (word, tt))

  pub rmdirs : IsDirective names (codes "rmdir") (named End) rmdir_at
  unfolding rmdir_at
  rmdirs = written_directive _ names _ _ _ _ _ _ (named_line names (λ dir name. on_tree (calls.Rmdir dir name)))
      (λ v h. says_call _ (host_calls.Tree (calls.Rmdir v.0 v.1.0)) refl (h.0, h.1.0))

  pub rmdirs_again : (dir : Spoken) (name : List ℕ) → FitsKey dir → FitsWord name
      → rmdir_at (key_word dir ∷ name ∷ []) ≡ Ok (on_tree (calls.Rmdir dir name))
  unfolding rmdir_at
  rmdirs_again dir name fits word =
      written_again _ names (codes "rmdir") _ _ _ _ _ (named_line names (λ dir name. on_tree (calls.Rmdir dir name))) (dir, (name, tt)) (fits, (word, tt))

  given_key : (call : HostCallOf Spoken) (bind : Option (List ℕ)) → GivesKey call → IfSome bind IsVariable
      → IfSome bind (λ name. IsVariable name × GivesKey call)
  given_key call None gives h = tt
  given_key call (Some name) gives h = (h, gives)

  pub mkdirs : IsDirective names (codes "mkdir") binding mkdir_at
  unfolding mkdir_at
  mkdirs =
      written_directive _ names _ _ _ _ _ _ (binding_line names (λ dir name bind. binding_on_tree (calls.Mkdir dir name) bind))
      (λ v h. record {
        spells = (codes "mkdir" ∷ key_word v.0 ∷ v.1.0 ∷ [], refl, refl);
        fits = ((h.0, h.1.0), given_key (host_calls.Tree (calls.Mkdir v.0 v.1.0)) v.1.1 tt h.1.1);
      })

  pub mkdirs_again : (dir : Spoken) (name : List ℕ) (bind : Option (List ℕ)) → FitsKey dir → FitsWord name → IfSome bind IsVariable
      → mkdir_at (key_word dir ∷ name ∷ as_part bind) ≡ Ok (binding_on_tree (calls.Mkdir dir name) bind)
  unfolding mkdir_at
  mkdirs_again dir name bind fits word variable =
      written_again _ names (codes "mkdir") _ _ _ _ _ (binding_line names (λ dir name bind. binding_on_tree (calls.Mkdir dir name) bind))
      (dir, (name, bind)) (fits, (word, variable))

  pub creates : IsDirective names (codes "create") binding create_at
  unfolding create_at
  creates =
      written_directive _ names _ _ _ _ _ _ (binding_line names (λ dir name bind. binding_on_tree (calls.Create dir name) bind))
      (λ v h. record {
        spells = (codes "create" ∷ key_word v.0 ∷ v.1.0 ∷ [], refl, refl);
        fits = ((h.0, h.1.0), given_key (host_calls.Tree (calls.Create v.0 v.1.0)) v.1.1 tt h.1.1);
      })

  pub creates_again : (dir : Spoken) (name : List ℕ) (bind : Option (List ℕ)) → FitsKey dir → FitsWord name → IfSome bind IsVariable
      → create_at (key_word dir ∷ name ∷ as_part bind) ≡ Ok (binding_on_tree (calls.Create dir name) bind)
  unfolding create_at
  creates_again dir name bind fits word variable =
      written_again _ names (codes "create") _ _ _ _ _ (binding_line names (λ dir name bind. binding_on_tree (calls.Create dir name) bind))
      (dir, (name, bind)) (fits, (word, variable))

  pub lookups : IsDirective names (codes "lookup") binding lookup_at
  unfolding lookup_at
  lookups =
      written_directive _ names _ _ _ _ _ _ (binding_line names (λ dir name bind. binding_on_tree (calls.Lookup dir name) bind))
      (λ v h. record {
        spells = (codes "lookup" ∷ key_word v.0 ∷ v.1.0 ∷ [], refl, refl);
        fits = ((h.0, h.1.0), given_key (host_calls.Tree (calls.Lookup v.0 v.1.0)) v.1.1 tt h.1.1);
      })

  pub lookups_again : (dir : Spoken) (name : List ℕ) (bind : Option (List ℕ)) → FitsKey dir → FitsWord name → IfSome bind IsVariable
      → lookup_at (key_word dir ∷ name ∷ as_part bind) ≡ Ok (binding_on_tree (calls.Lookup dir name) bind)
  unfolding lookup_at
  lookups_again dir name bind fits word variable =
      written_again _ names (codes "lookup") _ _ _ _ _ (binding_line names (λ dir name bind. binding_on_tree (calls.Lookup dir name) bind))
      (dir, (name, bind)) (fits, (word, variable))

  pub lists : IsDirective names (codes "list") (Then Key (Maybe (Then (Keyword (codes "after")) (Then AnyWord End)))) list_at
  unfolding list_at
  lists = written_directive _ names _ _ _ _ _ _ (after_key_line names (λ dir after. on_tree (calls.List dir after)))
      (λ v h. says_call _ (host_calls.Tree (calls.List v.0 v.1)) refl h)

  pub lists_again : (dir : Spoken) (after : Option (List ℕ)) → FitsKey dir → IfSome after FitsWord
      → list_at (key_word dir ∷ after_part after) ≡ Ok (on_tree (calls.List dir after))
  unfolding list_at
  lists_again dir after fits word =
      written_again _ names (codes "list") _ _ _ _ _ (after_key_line names (λ dir after. on_tree (calls.List dir after))) (dir, after) (fits, word)

  pub renames : IsDirective names (codes "rename") (named (named End)) rename_at
  unfolding rename_at
  renames = written_directive _ names _ _ _ _ _ _ (named_twice_line names (λ dir name to fresh. on_tree (calls.Rename dir name to fresh)))
      (λ v h. says_call _ (host_calls.Tree (calls.Rename v.0 v.1.0 v.1.1.0 v.1.1.1.0)) refl (h.0, h.1.0, h.1.1.0, h.1.1.1.0))

  pub renames_again : (dir : Spoken) (name : List ℕ) (to : Spoken) (fresh : List ℕ) → FitsKey dir → FitsWord name → FitsKey to → FitsWord fresh
      → rename_at (key_word dir ∷ name ∷ key_word to ∷ fresh ∷ []) ≡ Ok (on_tree (calls.Rename dir name to fresh))
  unfolding rename_at
  renames_again dir name to fresh d n t f =
      written_again _ names (codes "rename") _ _ _ _ _ (named_twice_line names (λ dir name to fresh. on_tree (calls.Rename dir name to fresh)))
      (dir, (name, (to, (fresh, tt)))) (d, (n, (t, (f, tt))))

  pub puts : IsDirective names (codes "put") (Then Key (Then count (Then (Number 0 255) End))) put_at
  unfolding put_at
  puts =
      written_directive _ names _ _ _ _ _ _
      (two_numbers_line names 0 4294967295 0 255 (omega arith) (omega arith) (λ file sector fill. unbound (host_calls.Put file sector fill)))
      (λ v h. says_call _ (host_calls.Put v.0 v.1.0 v.1.1.0) refl (h.0, omega (arith, h.1.0.1), omega (arith, h.1.1.0.1)))

  pub puts_again : (file : Spoken) (sector fill : ℕ) → FitsKey file → sector < 2 ^ 32 → fill < 256
      → put_at (key_word file ∷ decimal sector ∷ decimal fill ∷ []) ≡ Ok (unbound (host_calls.Put file sector fill))
  unfolding put_at
  puts_again file sector fill fits small slight =
      written_again _ names (codes "put") _ _ _ _ _
      (two_numbers_line names 0 4294967295 0 255 (omega arith) (omega arith) (λ file sector fill. unbound (host_calls.Put file sector fill)))
      (file, (sector, (fill, tt))) (fits, ((omega arith, omega (arith, small)), ((omega arith, omega (arith, slight)), tt)))

  pub crashes : IsDirective names (codes "crash") (Then PointName End) crash_at
  unfolding crash_at
  crashes = written_directive _ names _ _ _ _ _ _ (point_line names (λ point. directives.Crash point)) (λ v h. record { spells = refl; fits = tt })

  pub crashes_again : (point : Point) → crash_at (point_word point ∷ []) ≡ Ok (directives.Crash point)
  unfolding crash_at
  crashes_again point =
      written_again _ names (codes "crash") _ _ _ _ _ (point_line names (λ point. directives.Crash point)) (point, tt) (tt, tt)

  pub fails : IsDirective names (codes "fail") (Then PointName (Then Landing End)) fail_at
  unfolding fail_at
  fails = written_directive _ names _ _ _ _ _ _ (landing_line names (λ point landed. directives.Fail point landed))
      (λ v h. record { spells = refl; fits = tt })

  pub fails_again : (point : Point) (landed : Bool) → fail_at (point_word point ∷ landing_word landed ∷ []) ≡ Ok (directives.Fail point landed)
  unfolding fail_at
  fails_again point landed =
      written_again _ names (codes "fail") _ _ _ _ _ (landing_line names (λ point landed. directives.Fail point landed))
      (point, (landed, tt)) (tt, (tt, tt))

  pub ticks : IsDirective names (codes "tick") (Then (Number 1 most_ticks) End) tick_at
  unfolding tick_at
  ticks = written_directive _ names _ _ _ _ _ _ (number_line names 1 most_ticks (omega arith) (λ n. directives.Tick n))
      (λ v h. record { spells = refl; fits = h.0 })

  pub ticks_again : (n : ℕ) → IsWithin 1 most_ticks n → tick_at (decimal n ∷ []) ≡ Ok (directives.Tick n)
  unfolding tick_at
  ticks_again n within =
      written_again _ names (codes "tick") _ _ _ _ _ (number_line names 1 most_ticks (omega arith) (λ n. directives.Tick n)) (n, tt) (within, tt)

  module _ (are : AreNames names) where
    is_awaited : (host directive : ℕ) → host < length names → IsWithin 1 most_directives directive → IsAwaited (length names) host directive
    is_awaited host directive is within = record { is_host = is; from_one = within.0; most = within.1 }

    pub waits : IsDirective names (codes "wait") awaited (wait_at names)
    unfolding wait_at
    waits = written_directive _ names _ _ _ _ _ _ (awaited_line names are (λ host directive. directives.Wait host directive))
        (λ v h. record {
          spells = (name_at names v.0, slice_get-get_or names v.0 [] h.0, refl);
          fits = is_awaited v.0 v.1.0 h.0 h.1.0;
        })

    pub waits_again : (host directive : ℕ) → IsAwaited (length names) host directive
        → wait_at names (name_at names host ∷ decimal directive ∷ []) ≡ Ok (directives.Wait host directive)
    unfolding wait_at
    waits_again host directive is =
        written_again _ names (codes "wait") _ _ _ _ _ (awaited_line names are (λ host directive. directives.Wait host directive))
        (host, (directive, tt)) (is.is_host, ((is.from_one, is.most), tt))

    pub holds : IsDirective names (codes "hold") (Then PointName awaited) (hold_at names)
    unfolding hold_at
    holds = written_directive _ names _ _ _ _ _ _ (held_line names are (λ point host directive. directives.Hold point host directive))
        (λ v h. record {
          spells = (name_at names v.1.0, slice_get-get_or names v.1.0 [] h.1.0, refl);
          fits = is_awaited v.1.0 v.1.1.0 h.1.0 h.1.1.0;
        })

    pub holds_again : (point : Point) (host directive : ℕ) → IsAwaited (length names) host directive
        → hold_at names (point_word point ∷ name_at names host ∷ decimal directive ∷ []) ≡ Ok (directives.Hold point host directive)
    unfolding hold_at
    holds_again point host directive is =
        written_again _ names (codes "hold") _ _ _ _ _ (held_line names are (λ point host directive. directives.Hold point host directive))
        (point, (host, (directive, tt))) (tt, (is.is_host, ((is.from_one, is.most), tt)))
